-- The history backs the journal, through what a holder may leave.
use Rattle.std.proofs.Common.{◌≡◌, ℕ, Bool, List, [], ◌∷◌, ◌++◌, refl, sym, ◌∙◌, ap, subst, append-nil, ⊎_elim}
use Rattle.std.specs.Prelude.{filter, is_some}
use Rattle.std.specs.FinMap.{get}
use Rattle.std.proofs.lemmas.List.Elements.{filter-append}
use Rattle.rtsp_record.specs.declared.changes.Entry.{Entry}
use Rattle.rtsp_record.specs.Records.{session_of}
use Rattle.rtsp_record.specs.Books.{book_of}
use Rattle.rtsp_record.specs.Journals.{is_add_of, less_ended}
use Rattle.rtsp_book.specs.Kept.{entries_by}
use Rattle.rtsp_lock.specs.declared.view.View.{View}
use Rattle.rtsp_lock.specs.Entries.{Part}
use Rattle.rtsp_lock.specs.Numbers.{is_use_of, uses, streams_under, HasNoStream, IsBacked}
use Rattle.rtsp_lock.specs.Rule.{Adds, Forgets, Restates, Leaves}
use Rattle.rtsp_lock.proofs.Entries.{part_more, part_then, part_filter, part_passing}
use Rattle.rtsp_lock.proofs.Histories.{behind, behind_added, behind_ended, behind_restated}
use Rattle.rtsp_lock.proofs.Streaming.{no_stream}

-- where two lists together are none, the first is
first_none : (i j : List Entry) → i ++ j ≡ [] → i ≡ []
first_none [] j h = refl
first_none (e ∷ i) j h = absurd cc

streams_less : (n : ℕ) (h more : List Entry) → streams_under n (h ++ more) ≡ [] → streams_under n h ≡ []
streams_less n h more none = first_none (streams_under n h) (streams_under n more) (sym (filter-append (λ (e : Entry). is_add_of n e.change) h more) ∙ none)

uses_append : (n : ℕ) (i j : List Entry) → uses n (i ++ j) ≡ uses n i ++ uses n j
uses_append n i j = filter-append (λ (e : Entry). is_use_of n e.change) i j

-- with the same entries behind both
pub backed_more : (h j more : List Entry) → IsBacked h j → IsBacked (h ++ more) (j ++ more)
backed_more h j more b n none =
    subst (Part (uses n (j ++ more))) (sym (uses_append n h more))
    (subst (λ (l : List Entry). Part l (uses n h ++ uses n more)) (sym (uses_append n j more)) (part_more (uses n j) (uses n h) (uses n more) (b n (streams_less n h more none))))

-- with nothing behind the history
pub backed_still : (h j : List Entry) → IsBacked h j → IsBacked (h ++ []) j
backed_still h j b = subst (λ (l : List Entry). IsBacked l j) (sym (append-nil h)) b

-- with entries of some sessions left out
backed_filter : (p : Entry → Bool) (h j : List Entry) → IsBacked h j → IsBacked h (filter p j)
backed_filter p h j b n none =
    part_then (uses n (filter p j)) (uses n j) (uses n h) (part_passing (λ (e : Entry). is_use_of n e.change) (filter p j) j (part_filter p j)) (b n none)

pub backed_ended : (h j : List Entry) → IsBacked h j → IsBacked h (less_ended j)
backed_ended h j b = backed_filter (λ (e : Entry). is_some (get (book_of j) (session_of e.change))) h j b

-- with the settled sessions restated
pub backed_restated : (p : Entry → Bool) (h j made : List Entry) → book_of h ≡ book_of j → ((n : ℕ) → HasNoStream n (book_of j) → uses n made ≡ []) → IsBacked h j → IsBacked h (filter p j ++ made)
backed_restated p h j made book streaming b n none =
    let quiet : uses n made ≡ [] = streaming n (subst (HasNoStream n) book (no_stream n h none)) in
    subst (λ (l : List Entry). Part l (uses n h)) (sym (uses_append n (filter p j) made ∙ (ap (λ (l : List Entry). uses n (filter p j) ++ l) quiet ∙ append-nil (uses n (filter p j))))) (backed_filter p h j b n none)

-- what a holder leaves
pub backed_left : (v : View) (h j : List Entry) (r : ℕ) → Leaves v j r → v.found ≡ j → book_of h ≡ book_of j → IsBacked h j → IsBacked (h ++ behind v) v.left
backed_left v h j r leaves found book b =
    ⊎_elim
    (λ (a : Adds v j r).
    subst (λ (l : List Entry). IsBacked (h ++ l) v.left) (sym (behind_added v j r a found)) (subst (IsBacked (h ++ a.more)) (sym a.left) (backed_more h j a.more b)))
    (⊎_elim
    (λ (f : Forgets v j r).
    subst (λ (l : List Entry). IsBacked (h ++ l) v.left) (sym (behind_ended v j r f found)) (backed_still h v.left (subst (IsBacked h) (sym f.left) (backed_ended h j b))))
    (λ (c : Restates v j r).
    subst (λ (l : List Entry). IsBacked (h ++ l) v.left) (sym (behind_restated v j r c found))
    (backed_still h v.left (subst (IsBacked h) (sym c.left) (backed_restated (λ (e : Entry). c.kept (session_of e.change)) h j (entries_by v.next c.made) book c.streaming b)))))
    leaves
