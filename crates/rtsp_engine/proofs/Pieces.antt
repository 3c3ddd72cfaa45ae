-- How much a visit reads.
use Rattle.std.proofs.Common.{◌≡◌, ℕ, ◌+◌, ◌*◌, ◌<◌, ◌≤◌, List, [], ◌++◌, Option, Result, Ok, Err, length, take, refl, subst, sym, ◌∙◌, arith}
use Rattle.std.proofs.lemmas.List.{length-append, length-take}
use Rattle.std.specs.Io.KnownBytes.{Consumes, Keeps}
use Rattle.rtsp_engine.specs.Visiting.{Came, FindsNone, ended, ReadsSome, ReadsPieces}
use Rattle.rtsp_engine.specs.declared.visiting.VisitEnd.{VisitEnd}
use Rattle.rtsp_engine.specs.declared.visiting.VisitEnd.TheVariants.{More, Waits, Closed, ReadFault, WriteFault, Fault}
use Rattle.std.proofs.KnownBytes.{Consumes-kept, Consumes-nil, Consumes-trans}

-- what so many pieces of this length gave, each a byte at least
pub record InPieces (count room : ℕ) (unread left : Option (List ℕ)) : Type 0 where
  pub bytes : List ℕ
  pub read : Consumes unread left bytes
  pub least : count ≤ length bytes
  pub most : length bytes ≤ count * room

pub no_pieces : (room : ℕ) (a : Option (List ℕ)) → InPieces 0 room a a
no_pieces room a = record { bytes = []; read = Consumes-nil a; least = omega arith; most = omega arith }

pub one_piece : {count n room : ℕ} {a b c : Option (List ℕ)} {buffer : List ℕ} → InPieces count room a b → Came b c n buffer → length buffer ≤ room → InPieces (count + 1) room a c
one_piece {n = n} {a = a} {b = b} {c = c} {buffer = buffer} before piece fits = record {
  bytes = before.bytes ++ take n buffer;
  read = Consumes-trans a b c before.bytes (take n buffer) before.read piece.read;
  least = omega (arith, length-append before.bytes (take n buffer), length-take n buffer, before.least, piece.some, piece.within);
  most = omega (arith, length-append before.bytes (take n buffer), length-take n buffer, before.most, fits, piece.within);
}

product_below : (count pieces room : ℕ) → count ≤ pieces → count * room ≤ pieces * room
product_below count pieces room h = grind (arith, h)

-- some bytes are owed only where there may be more
some_at_more : (end : VisitEnd) (pieces : ℕ) (bytes : List ℕ) → (end ≡ More → 0 < length bytes) → ReadsSome end pieces bytes
some_at_more More pieces bytes some = λ _. some refl
some_at_more Waits pieces bytes some = tt
some_at_more Closed pieces bytes some = tt
some_at_more ReadFault pieces bytes some = tt
some_at_more WriteFault pieces bytes some = tt
some_at_more (Fault fault) pieces bytes some = tt

not_more : {E : Type 0} (wrote : Result (Unit {0}) E) (end : VisitEnd) → ended wrote end ≡ More → FindsNone end → ⊥
not_more (Ok done) end is none = subst (λ (z : VisitEnd). FindsNone z) is none
not_more (Err fault) end is none = cc

-- a visit that ended where no piece came
pub reads_none : {E : Type 0} {result : VisitEnd} {count pieces room : ℕ} {a b c : Option (List ℕ)} (wrote : Result (Unit {0}) E) (end : VisitEnd)
    → InPieces count room a b → Keeps b c → FindsNone end → result ≡ ended wrote end → count ≤ pieces → ReadsPieces result pieces room a c
reads_none {result = result} {count = count} {pieces = pieces} {room = room} {a = a} {b = b} {c = c} wrote end h kept none is below = record {
  bytes = h.bytes;
  read = Consumes-kept a b c h.bytes h.read kept;
  most = omega (arith, h.most, product_below count pieces room below);
  some = some_at_more result pieces h.bytes (λ more. absurd (not_more wrote end (sym is ∙ more) none));
}

-- a visit that ended after a piece
pub reads_after : {result : VisitEnd} {count n pieces room : ℕ} {a b c : Option (List ℕ)} {buffer : List ℕ}
    → InPieces count room a b → Came b c n buffer → count < pieces → length buffer ≤ room → ReadsPieces result pieces room a c
reads_after {result = result} {count = count} {pieces = pieces} {room = room} before piece below fits =
    let h = one_piece before piece fits in
    record {
      bytes = h.bytes;
      read = h.read;
      most = omega (arith, h.most, product_below (count + 1) pieces room (omega (arith, below)));
      some = some_at_more result pieces h.bytes (λ _. omega (arith, h.least));
    }
