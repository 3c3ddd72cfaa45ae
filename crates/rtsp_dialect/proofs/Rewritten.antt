-- Texts that are written anew.
use Rattle.std.proofs.Common.{◌≡◌, ℕ, Bool, true, false, List, ◌∷◌, ◌++◌, map, refl, sym, ap, ◌∙◌, append_assoc}
use Rattle.std.specs.Prelude.{◌&&◌, codes, Result, Ok, Err, OnOk, is_ok, if◌then◌else◌}
use Rattle.std.specs.List.{join_with_byte}
use Rattle.rtsp_text.specs.Trim.{trimmed}
use Rattle.rtsp_transport.specs.Names.{is_udp}
use Rattle.rtsp_transport.specs.Split.{split}
use Rattle.rtsp_dialect.specs.ClientPort.{has_ports_alone, is_old, addresses_text}
use Rattle.rtsp_dialect.specs.ClientPortText.{parameter_in, spec_in, are_old, is_old_text, repaired_part, repaired_parts, repaired_spec_text, has_old, repaired_transport}
use Rattle.rtsp_dialect.specs.PartText.{behind}
use Rattle.rtsp_dialect.proofs.LeftParts.{join_behind}

pub old_text : (text first : List ℕ) (others : List (List ℕ)) → split false 59 text ≡ first ∷ others → is_old_text text ≡ is_old (spec_in first others)
unfolding is_old_text
old_text text first others e = ap are_old e

pub plain_spec : (text : List ℕ) → is_old_text text ≡ false → repaired_spec_text text ≡ text
unfolding repaired_spec_text
plain_spec text e = rw e refl

pub old_spec : (text first : List ℕ) (others : List (List ℕ)) → is_old_text text ≡ true → split false 59 text ≡ first ∷ others
    → repaired_spec_text text ≡ first ++ behind 59 (map repaired_part others)
unfolding repaired_spec_text
old_spec text first others old e =
    rw old (ap (λ (ps : List (List ℕ)). join_with_byte 59 (repaired_parts ps)) e ∙ join_behind 59 first (map repaired_part others))

pub plain_transport : (value : List ℕ) → has_old value ≡ false → repaired_transport value ≡ value
unfolding repaired_transport
plain_transport value e = rw e refl

pub old_transport : (value first : List ℕ) (others : List (List ℕ)) → has_old value ≡ true → split false 44 value ≡ first ∷ others
    → repaired_transport value ≡ repaired_spec_text first ++ behind 44 (map repaired_spec_text others)
unfolding repaired_transport
old_transport value first others old e =
    rw old (ap (λ (ps : List (List ℕ)). join_with_byte 44 (map repaired_spec_text ps)) e ∙ join_behind 44 (repaired_spec_text first) (map repaired_spec_text others))

-- ---- what is tested

module _ (text first core : List ℕ) (others : List (List ℕ)) (udp : Bool) (e : split false 59 text ≡ first ∷ others) (t : core ≡ trimmed first) (u : udp ≡ is_udp core) where
  udp_is : (x : Bool) → udp ≡ x → is_udp (trimmed first) ≡ x
  udp_is x is = ap is_udp (sym t) ∙ sym u ∙ is

  pub old_over_udp : (alone : Bool) → udp ≡ true → alone ≡ has_ports_alone (map parameter_in others) → alone ≡ is_old_text text
  old_over_udp alone is a = a ∙ sym (old_text text first others e ∙ ap (λ (b : Bool). b && has_ports_alone (map parameter_in others)) (udp_is true is))

  pub not_over_udp : udp ≡ false → udp ≡ is_old_text text
  not_over_udp is = is ∙ sym (old_text text first others e ∙ ap (λ (b : Bool). b && has_ports_alone (map parameter_in others)) (udp_is false is))

-- ---- what is written

address_parts : (out rtp rtcp : List ℕ) → ((((out ++ codes "dest_addr=\":") ++ rtp) ++ codes "\"/\":") ++ rtcp) ++ codes "\"" ≡ out ++ (codes "dest_addr=" ++ addresses_text (rtp, rtcp))
address_parts out rtp rtcp =
    ap (λ (xs : List ℕ). ((xs ++ codes "\"/\":") ++ rtcp) ++ codes "\"") (append_assoc out (codes "dest_addr=\":") rtp)
    ∙ ap (λ (xs : List ℕ). (xs ++ rtcp) ++ codes "\"") (append_assoc out (codes "dest_addr=\":" ++ rtp) (codes "\"/\":"))
    ∙ ap (λ (xs : List ℕ). xs ++ codes "\"") (append_assoc out ((codes "dest_addr=\":" ++ rtp) ++ codes "\"/\":") rtcp)
    ∙ append_assoc out (((codes "dest_addr=\":" ++ rtp) ++ codes "\"/\":") ++ rtcp) (codes "\"")

pub address_written : {E : Type 0} (wrote : Result (Unit {0}) E) (out a b c d new rtp rtcp : List ℕ)
    → a ≡ out ++ codes "dest_addr=\":" → b ≡ a ++ rtp → c ≡ b ++ codes "\"/\":" → d ≡ c ++ rtcp → new ≡ (if is_ok wrote then d ++ codes "\"" else d)
    → OnOk wrote (new ≡ out ++ (codes "dest_addr=" ++ addresses_text (rtp, rtcp)))
address_written (Ok done) out a b c d new rtp rtcp h i j k l =
    l ∙ ap (λ (xs : List ℕ). xs ++ codes "\"") (k ∙ ap (λ (xs : List ℕ). xs ++ rtcp) (j ∙ ap (λ (xs : List ℕ). xs ++ codes "\"/\":") (i ∙ ap (λ (xs : List ℕ). xs ++ rtp) h)))
    ∙ address_parts out rtp rtcp
address_written (Err e) out a b c d new rtp rtcp h i j k l = tt

pub spec_written : {E : Type 0} (wrote : Result (Unit {0}) E) (out mid new text first : List ℕ) (others : List (List ℕ)) → is_old_text text ≡ true → split false 59 text ≡ first ∷ others
    → mid ≡ out ++ first → OnOk wrote (new ≡ mid ++ behind 59 (map repaired_part others)) → OnOk wrote (new ≡ out ++ repaired_spec_text text)
spec_written (Ok done) out mid new text first others old e m n =
    n ∙ ap (λ (xs : List ℕ). xs ++ behind 59 (map repaired_part others)) m ∙ append_assoc out first (behind 59 (map repaired_part others)) ∙ ap (λ (xs : List ℕ). out ++ xs) (sym (old_spec text first others old e))
spec_written (Err e) out mid new text first others old same m n = tt
