use Rattle.std.proofs.Common.{◌≡◌, ℕ, ◌<◌, Bool, false, inl, inr, sym, ◌∙◌, arith}
use Rattle.std.specs.Prelude.{IsTrue}
use Rattle.std.proofs.lemmas.Bool.{cases_lt}
use Rattle.rtsp_index.specs.Agreeing.{book_in}
use Rattle.rtsp_index.proofs.OnConnLemmas.{none_on}
use Rattle.rtsp_index.proofs.parts.Parts.on_conn.Goals as goal

nothing : (n : ℕ) (t : Bool) → (0 < n → IsTrue t) → t ≡ false → n ≡ 0
nothing n t some off =
    elim (cases_lt 0 n) [
      | inl more ↦ let bad = sym off ∙ some more in absurd cc
      | inr none ↦ omega (arith, none)
    ]

pub returns-then-not-has_bound : goal.returns-then-not-has_bound
returns-then-not-has_bound c =
    let b = book_in c.args.self.now in
    none_on b c.args.conn (c.has_channels.ensures.no b c.requires.pools c.if-not-has_channels.true)
    (nothing _ c.has_bound.result (c.has_bound.ensures b c.requires.counts).1 c.if-not-has_bound.true)
