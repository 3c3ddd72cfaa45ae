-- The play that a session had last is left.
use Rattle.std.proofs.Common.{◌≡◌, ℕ, Option, Some, None, IsSome, nat_eq, unwrap_or, refl, sym, ◌∙◌, ap, subst}
use Rattle.slab.specs.Slab.{get, with_value, ContainsKey}
use Rattle.slab.proofs.SlabLemmas.{Updates-with_value}
use Rattle.indexmap.specs.IndexMap as sessions
use Rattle.rtsp_record.specs.declared.phases.Phase.{Phase}
use Rattle.rtsp_pacing.specs.declared.play.PacedPlay.{PacedPlay}
use Rattle.rtsp_pacing.specs.declared.plays.Linked.{Linked}
use Rattle.rtsp_pacing.specs.declared.plays.PacerPlays.{PacerPlays}
use Rattle.rtsp_pacing.specs.Beginning.{LeavesPlay, LeavesLatest}

some_same : (a b : Linked) → Some a ≡ Some b → a ≡ b
some_same a b e = cc

key_same : (a b : ℕ) → Some a ≡ Some b → a ≡ b
key_same a b e = cc

contains : (p : PacerPlays) (key : ℕ) (l : Linked) → get p.plays key ≡ Some l → ContainsKey p.plays key
contains p key l e = subst IsSome (sym e) refl

pub leaves : (p : PacerPlays) (session key : ℕ) (next : Phase) (l : Linked) (play : PacedPlay) → sessions.get nat_eq p.latest session ≡ Some key → get p.plays key ≡ Some l
    → play.left ≡ Some (unwrap_or l.play.left next)
    → LeavesLatest p session next (record { plays = with_value p.plays key (record { play = play; before = l.before }); latest = p.latest })
leaves p session key next l play latest there left other is was been =
    let here : key ≡ other = key_same key other (sym latest ∙ is) in
    let same : l ≡ was = some_same l was (sym there ∙ subst (λ k. get p.plays k ≡ Some was) (sym here) been) in
    subst (λ k. LeavesPlay was next (record { plays = with_value p.plays key (record { play = play; before = l.before }); latest = p.latest }) k) here (record {
      linked = record { play = play; before = l.before };
      there = (Updates-with_value p.plays key (record { play = play; before = l.before }) (contains p key l there)).changed;
      left = left ∙ ap (λ (m : Linked). Some (unwrap_or m.play.left next)) same;
    })
