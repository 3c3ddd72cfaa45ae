-- What a session holds may be taken back, one thing after another.
use Rattle.std.proofs.Common.{◌≡◌, ◌≢◌, ℕ, true, false, ◌&&◌, not, cond, [], ◌∷◌, ◌++◌, refl, sym, ◌∙◌, ap}
use Rattle.std.specs.Prelude.{Option, Some, None, is_none}
use Rattle.std.proofs.lemmas.Bool.{and_parts, not-true, not-false}
use Rattle.rtsp_record.specs.declared.holdings.Admission.{Admission}
use Rattle.rtsp_record.specs.declared.holdings.Thing.{Thing}
use Rattle.rtsp_record.specs.Records.{frees}
use Rattle.rtsp_record.specs.Books.{Session, freed, under, with_under}
use Rattle.rtsp_record.specs.Rules.{alike, Own, is_held, if_living}
use Rattle.rtsp_book.specs.Sessions.{has_stream_under}
use Rattle.rtsp_book.specs.Made.{taking_back}
use Rattle.rtsp_book.specs.Replies.{AreDifferent}
use Rattle.rtsp_record.proofs.Sound.{freed_stream}
use Rattle.rtsp_record.proofs.LastWords.{Kinds, OneKind, TwoKinds, kinds}
use Rattle.rtsp_record.proofs.Rows.{under-own}
use Rattle.rtsp_record.proofs.Trims.{AllFine}
use Rattle.rtsp_book.proofs.Runs.{OwnAll, own-append, Giving, fine-append}
use Rattle.rtsp_book.proofs.Tests.{none_there, held_is}

pub own_free : (s a : ℕ) (x : Thing) (f : Session) → is_held f a x ≡ true → has_stream_under f a ≡ false → Own (frees s a x) (Some f)
own_free s a x f held off = record { held = held_is f a x held; no_stream = none_there (under f a).stream off }

pub own_return : (s a : ℕ) (x : Thing) (o : Option Session) → is_none o ≡ false → if_living o (λ f. has_stream_under f a) ≡ false → if_living o (λ f. not (is_held f a x)) ≡ false → Own (frees s a x) o
own_return s a x None lives right held = absurd cc
own_return s a x (Some f) lives right held = own_free s a x f (not-false (is_held f a x) held) right

-- a second thing is still held when the first is freed
still_held : (x y : Thing) (d : Admission) → x ≢ y → alike x d ≡ Some x → alike y d ≡ Some y → alike y (freed x d) ≡ Some y
still_held x y d apart hx hy = by (kinds x y)
  where
    by : Kinds x y → alike y (freed x d) ≡ Some y
    by (OneKind same) = absurd (apart (let both : ◌≡◌ {A = Option Thing} (Some x) (Some y) = sym hx ∙ sym (same d) ∙ hy in cc))
    by (TwoKinds off more less) = less d ∙ hy

-- Free of one Hold of a chain, where it is held and has no stream
pub one_back : (s a : ℕ) (f : Session) (o : Option Thing) → OwnAll (taking_back s a f o) (Some f) × AllFine (Giving s) (taking_back s a f o)
one_back s a f None = (tt, tt)
one_back s a f (Some x) =
    elim (is_held f a x && not (has_stream_under f a)) as (λ t. (is_held f a x && not (has_stream_under f a)) ≡ t → OwnAll (cond t (frees s a x ∷ []) []) (Some f) × AllFine (Giving s) (cond t (frees s a x ∷ []) [])) [
      | true ↦ λ is. let parts = and_parts (is_held f a x) (not (has_stream_under f a)) is in ((own_free s a x f parts.0 (not-true (has_stream_under f a) parts.1), tt), (refl, tt))
      | false ↦ λ _. (tt, tt)
    ] refl

pub two_back : (s a : ℕ) (f : Session) (first second : Option Thing) → AreDifferent first second → OwnAll (taking_back s a f second ++ taking_back s a f first) (Some f) × AllFine (Giving s) (taking_back s a f second ++ taking_back s a f first)
two_back s a f first None apart = one_back s a f first
two_back s a f None (Some y) apart =
    let one = one_back s a f (Some y) in
    (own-append (taking_back s a f (Some y)) [] (Some f) one.0 tt, fine-append (Giving s) (taking_back s a f (Some y)) [] one.1 tt)
two_back s a f (Some x) (Some y) apart =
    elim (is_held f a y && not (has_stream_under f a)) as (λ t. (is_held f a y && not (has_stream_under f a)) ≡ t → OwnAll (cond t (frees s a y ∷ []) [] ++ taking_back s a f (Some x)) (Some f) × AllFine (Giving s) (cond t (frees s a y ∷ []) [] ++ taking_back s a f (Some x))) [
      | false ↦ λ _. one_back s a f (Some x)
      | true ↦ λ is.
          let parts = and_parts (is_held f a y) (not (has_stream_under f a)) is in
          let off = not-true (has_stream_under f a) parts.1 in
          let d = freed y (under f a) in
          elim (is_held f a x && not (has_stream_under f a)) as (λ t. (is_held f a x && not (has_stream_under f a)) ≡ t → OwnAll (frees s a y ∷ cond t (frees s a x ∷ []) []) (Some f) × AllFine (Giving s) (frees s a y ∷ cond t (frees s a x ∷ []) [])) [
            | false ↦ λ _. ((own_free s a y f parts.0 off, tt), (refl, tt))
            | true ↦ λ is2.
                let held_x = held_is f a x (and_parts (is_held f a x) (not (has_stream_under f a)) is2).0 in
                let again : Own (frees s a x) (Some (with_under f a d)) = record {
                  held = ap (alike x) (under-own f a d) ∙ still_held y x (under f a) (λ e. apart (sym e)) (held_is f a y parts.0) held_x;
                  no_stream = ap (λ (d : Admission). d.stream) (under-own f a d) ∙ freed_stream y (under f a) ∙ none_there (under f a).stream off;
                } in
                ((own_free s a y f parts.0 off, (again, tt)), (refl, (refl, tt)))
          ] refl
    ] refl
