-- Names of one spelling have one length.
use Rattle.std.proofs.Common.{◌≡◌, ℕ, Bool, true, false, List, length, map, refl, sym, ap, ◌∙◌}
use Rattle.std.specs.Prelude.{cond, codes, ◌&&◌, is_some}
use Rattle.std.specs.Char.{to_ascii_lowercase}
use Rattle.std.specs.Cmp.Lexicographic.{same_text}
use Rattle.std.proofs.lemmas.List.{length-map}
use Rattle.rtsp_grammar.specs.Header.{HeaderText, is_named}
use Rattle.rtsp_dialect.specs.Startup.{long_startup}
use Rattle.rtsp_dialect.specs.ClientPortText.{has_old}
use Rattle.rtsp_dialect.specs.Repair.{is_startup, is_transport, needs_repair}

named_length : (name other : List ℕ) → is_named name other ≡ true → length name ≡ length other
named_length name other h = sym (length-map name to_ascii_lowercase) ∙ ap length (same_text (map to_ascii_lowercase name) (map to_ascii_lowercase other) (sym h)) ∙ length-map other to_ascii_lowercase

pub other_length : (h : HeaderText) → (length h.name ≡ 18 → ⊥) → (length h.name ≡ 9 → ⊥) → needs_repair h ≡ false
unfolding needs_repair
other_length h long short = go (is_startup h) (is_transport h) refl refl where
  go : (x y : Bool) → is_startup h ≡ x → is_transport h ≡ y → cond x (is_some (long_startup h.value)) (y && has_old h.value) ≡ false
  go true y p q = absurd (long (named_length h.name (codes "Pipelined-Requests") p))
  go false true p q = absurd (short (named_length h.name (codes "Transport") q))
  go false false p q = refl
