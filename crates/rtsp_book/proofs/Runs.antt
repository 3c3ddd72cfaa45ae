-- Runs of records of one session.
use Rattle.std.proofs.Common.{◌≡◌, ℕ, ◌+◌, false, not, List, [], ◌∷◌, ◌++◌, length, refl, sym, ◌∙◌, ap, subst, arith}
use Rattle.std.specs.Prelude.{Option, Some}
use Rattle.std.specs.FinMap.{get}
use Rattle.rtsp_record.specs.declared.holdings.Whole.{Whole}
use Rattle.rtsp_record.specs.declared.changes.Record.{Record}
use Rattle.rtsp_record.specs.declared.changes.Record.TheVariants.{Open, Close, Hold, Free, Add, Drop, Move, Touch, Bind, Unbind}
use Rattle.rtsp_record.specs.Records.{inverse_of, session_of}
use Rattle.rtsp_record.specs.Books.{Session, Book, opening, effect, after, after_all}
use Rattle.rtsp_record.specs.Sums.{one_if, is_opening, returns, owed}
use Rattle.rtsp_record.specs.Rules.{Own, Others, AllAllowed}
use Rattle.rtsp_record.proofs.Tables.{get-set_own}
use Rattle.rtsp_record.proofs.Balance.{gain, balance}
use Rattle.rtsp_record.proofs.Strands.{row_after}
use Rattle.rtsp_record.proofs.Trims.{AllFine}

-- each is allowed by the session's own row after those before it
abbrev pub OwnAll : List Record → Option Session → Type 0
OwnAll [] o = Unit {0}
OwnAll (r ∷ rs) o = Own r o × OwnAll rs (effect r o)

pub row_after-append : (rs qs : List Record) (o : Option Session) → row_after (rs ++ qs) o ≡ row_after qs (row_after rs o)
row_after-append [] qs o = refl
row_after-append (r ∷ rs) qs o = row_after-append rs qs (effect r o)

pub own-append : (rs qs : List Record) (o : Option Session) → OwnAll rs o → OwnAll qs (row_after rs o) → OwnAll (rs ++ qs) o
own-append [] qs o h g = g
own-append (r ∷ rs) qs o h g = (h.0, own-append rs qs (effect r o) h.1 g)

-- records allowed on this session, which leave it so
pub record Run (rs : List Record) (f g : Session) : Type 0 where
  pub own : OwnAll rs (Some f)
  pub ends : row_after rs (Some f) ≡ Some g

pub run-none : (f : Session) → Run [] f f
run-none f = record { own = tt; ends = refl }

pub run-append : (rs qs : List Record) (f g h : Session) → Run rs f g → Run qs g h → Run (rs ++ qs) f h
run-append rs qs f g h one two =
    record {
      own = own-append rs qs (Some f) one.own (subst (OwnAll qs) (sym one.ends) two.own);
      ends = row_after-append rs qs (Some f) ∙ ap (row_after qs) one.ends ∙ two.ends;
    }

pub run-to : (rs : List Record) (f g h : Session) → g ≡ h → Run rs f g → Run rs f h
run-to rs f g h same run = subst (Run rs f) same run

-- a record that asks nothing of other sessions
abbrev pub Lone : ℕ → Record → Type 0
Lone s (Open k) = ⊥
Lone s (Hold k) = ⊥
Lone s (Bind k) = ⊥
Lone s r = session_of r ≡ s

pub lone_session : (s : ℕ) (r : Record) → Lone s r → session_of r ≡ s
lone_session s (Open k) h = absurd h
lone_session s (Hold k) h = absurd h
lone_session s (Bind k) h = absurd h
lone_session s r h = h

lone_others : (s : ℕ) (w : Whole) (b : Book) (r : Record) → Lone s r → Others w r b
lone_others s w b (Open k) h = absurd h
lone_others s w b (Hold k) h = absurd h
lone_others s w b (Bind k) h = absurd h
lone_others s w b r h = tt

pub row_at : (s : ℕ) (b : Book) (r : Record) → Lone s r → get (after b r) s ≡ effect r (get b s)
row_at s b r h = subst (λ q. get (after b r) q ≡ effect r (get b q)) (lone_session s r h) (get-set_own b (session_of r) (effect r (get b (session_of r))))

pub lone_allowed : (w : Whole) (s : ℕ) (b : Book) (rs : List Record) → AllFine (Lone s) rs → OwnAll rs (get b s) → AllAllowed w b rs
lone_allowed w s b [] l h = tt
lone_allowed w s b (r ∷ rs) l h =
    ((subst (λ q. Own r (get b q)) (sym (lone_session s r l.0)) h.0, lone_others s w b r l.0), lone_allowed w s (after b r) rs l.1 (subst (OwnAll rs) (sym (row_at s b r l.0)) h.1))

pub lone_row : (s : ℕ) (b : Book) (rs : List Record) → AllFine (Lone s) rs → get (after_all b rs) s ≡ row_after rs (get b s)
lone_row s b [] l = refl
lone_row s b (r ∷ rs) l = lone_row s (after b r) rs l.1 ∙ ap (row_after rs) (row_at s b r l.0)

-- a record that gives back, of this session
abbrev pub Giving : ℕ → Record → Type 0
Giving s (Add k) = ⊥
Giving s (Touch k) = ⊥
Giving s (Move k) = (k.session ≡ s) × (is_opening k.from ≡ false) × (k.to ≡ opening)
Giving s r = Lone s r

pub giving_lone : (s : ℕ) (r : Record) → Giving s r → Lone s r
giving_lone s (Add k) h = absurd h
giving_lone s (Touch k) h = absurd h
giving_lone s (Move k) h = h.0
giving_lone s r h = h

pub all_lone : (s : ℕ) (rs : List Record) → AllFine (Giving s) rs → AllFine (Lone s) rs
all_lone s [] h = tt
all_lone s (r ∷ rs) h = (giving_lone s r h.0, all_lone s rs h.1)

pub fine-append : (P : Record → Type 0) (rs qs : List Record) → AllFine P rs → AllFine P qs → AllFine P (rs ++ qs)
fine-append P [] qs h g = g
fine-append P (r ∷ rs) qs h g = (h.0, fine-append P rs qs h.1 g)

-- each settles one return that is owed
pub settles : (s : ℕ) (r : Record) → Giving s r → gain returns (inverse_of r) ≡ gain returns r + 1
settles s (Close k) h = refl
settles s (Free k) h = refl
settles s (Drop k) h = refl
settles s (Move k) h = omega (arith, ap returns.phase h.2, ap (λ t. one_if (not t)) h.1)
settles s (Unbind k) h = refl
settles s r h = absurd h

pub owed_given : (w : Whole) (s : ℕ) (b : Book) (rs : List Record) → AllFine (Giving s) rs → AllAllowed w b rs → length rs + owed (after_all b rs) ≡ owed b
owed_given w s b [] g h = omega arith
owed_given w s b (r ∷ rs) g h = omega (arith, owed_given w s (after b r) rs g.1 h.1, balance returns b r h.0.0, settles s r g.0)
