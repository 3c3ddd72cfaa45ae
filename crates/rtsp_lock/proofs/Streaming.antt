-- Under a number that never had a stream a checkpoint leaves no use but those that it found.
use Rattle.std.proofs.Common.{◌≡◌, ◌≢◌, ℕ, true, false, T, cond, List, [], ◌∷◌, ◌++◌, refl, sym, ◌∙◌, ap, subst}
use Rattle.std.specs.Prelude.{Option, Some, None, is_some, filter, flat_map}
use Rattle.std.specs.Ordering.{nat_cmp}
use Rattle.std.specs.List.{AllByRecursion}
use Rattle.std.specs.FinMap.{get, find, empty, entries, entries_sorted, get-entries, is_sorted}
use Rattle.std.proofs.lemmas.Bool.{and_parts, eqb-false}
use Rattle.std.proofs.lemmas.Option.{none-some}
use Rattle.std.specs.FinMap.Entries.{below_all}
use Rattle.rtsp_record.specs.declared.holdings.Thing.{Thing}
use Rattle.rtsp_record.specs.declared.holdings.Thing.TheVariants.{Rate, Pair, Port, Chan}
use Rattle.rtsp_record.specs.declared.holdings.Admission.{Admission}
use Rattle.rtsp_record.specs.declared.phases.Phase.{Phase}
use Rattle.rtsp_record.specs.declared.streams.Stream.{Stream}
use Rattle.rtsp_record.specs.declared.changes.Entry.{Entry}
use Rattle.rtsp_record.specs.declared.changes.Record.{Record}
use Rattle.rtsp_record.specs.declared.changes.Record.TheVariants.{Open, Close, Hold, Free, Add, Drop}
use Rattle.rtsp_record.specs.Records.{session_of, inverse_of, moves}
use Rattle.rtsp_record.specs.Books.{Session, Book, opening, or_bare, holding, freed, streaming, under, effect, after, after_all, records_of, book_of}
use Rattle.rtsp_record.specs.Journals.{undone, is_add_of}
use Rattle.rtsp_record.specs.Sums.{is_opening}
use Rattle.rtsp_record.proofs.Rows.{at_under}
use Rattle.rtsp_record.proofs.Tables.{tied, at_key, own, get-set, get-none}
use Rattle.rtsp_record.proofs.Sound.{under_opened}
use Rattle.rtsp_record.proofs.Trims.{AllFine}
use Rattle.rtsp_sessions.specs.Searches.{all_streaming, is_settled}
use Rattle.rtsp_sessions.proofs.FirstRows.{sorted_parts, below_none}
use Rattle.rtsp_book.specs.Kept.{entries_by}
use Rattle.rtsp_book.specs.Returns.{dropping, freeing, freeing_rate, giving_back, resetting, unbinding, ending}
use Rattle.rtsp_book.specs.Checkpoints.{making, snapshot}
use Rattle.rtsp_book.proofs.Runs.{fine-append}
use Rattle.rtsp_lock.specs.Numbers.{is_use_of, uses, streams_under, HasNoStream}
use Rattle.rtsp_lock.proofs.Using.{Quiet, quiet_entries, other_number}

-- Where no stream was added under a number, no session has one.

-- the session has no stream under the number, if it lives
abbrev Streamless : ℕ → Option Session → Type 0
Streamless n None = Unit {0}
Streamless n (Some f) = (under f n).stream ≡ None

holding_stream : (x : Thing) (d : Admission) → d.stream ≡ None → (holding x d).stream ≡ None
holding_stream (Rate m) d h = h
holding_stream (Pair p) d h = h
holding_stream (Port p) d h = h
holding_stream (Chan c k) d h = h

freed_stream : (x : Thing) (d : Admission) → d.stream ≡ None → (freed x d).stream ≡ None
freed_stream (Rate m) d h = h
freed_stream (Pair p) d h = h
freed_stream (Port p) d h = h
freed_stream (Chan c k) d h = h

abbrev NoStream : Admission → Type 0
NoStream d = d.stream ≡ None

streamless_row : (n : ℕ) (r : Record) (o : Option Session) → is_add_of n r ≡ false → Streamless n o → Streamless n (effect r o)
streamless_row n (Open l) o off h = subst NoStream (sym (under_opened l.id l.conn l.expires n)) refl
streamless_row n (Close l) o off h = tt
streamless_row n (Hold k) (Some f) off h =
    at_under f k.admission (holding k.thing (under f k.admission)) n NoStream (λ e. holding_stream k.thing (under f k.admission) (subst (λ c. NoStream (under f c)) e h)) h
streamless_row n (Free k) (Some f) off h =
    at_under f k.admission (freed k.thing (under f k.admission)) n NoStream (λ e. freed_stream k.thing (under f k.admission) (subst (λ c. NoStream (under f c)) e h)) h
streamless_row n (Add d) (Some f) off h = at_under f d.admission (streaming (Some d.stream) (under f d.admission)) n NoStream (λ e. absurd (eqb-false d.admission n off (sym e))) h
streamless_row n (Drop d) (Some f) off h = at_under f d.admission (streaming None (under f d.admission)) n NoStream (λ e. refl) h
streamless_row n r None off h = tt
streamless_row n r (Some f) off h = h

streamless_after : (n q : ℕ) (b : Book) (r : Record) → is_add_of n r ≡ false → ((s : ℕ) → Streamless n (get b s)) → Streamless n (get (after b r) q)
streamless_after n q b r off h =
    let s = session_of r in
    subst (Streamless n) (sym (get-set b s q (effect r (get b s)))) (at_key s q (λ v. Streamless n (cond v (effect r (get b s)) (get b q))) (λ _ _. streamless_row n r (get b s) off (h s)) (λ _. h q))

streamless_all : (n : ℕ) (b : Book) (h : List Entry) → streams_under n h ≡ [] → ((s : ℕ) → Streamless n (get b s)) → (q : ℕ) → Streamless n (get (after_all b (records_of h)) q)
streamless_all n b [] none all q = all q
streamless_all n b (e ∷ h) none all q =
    elim (is_add_of n e.change) as (λ v. is_add_of n e.change ≡ v → cond v (e ∷ streams_under n h) (streams_under n h) ≡ [] → Streamless n (get (after_all (after b e.change) (records_of h)) q)) [
      | true ↦ λ _ l. absurd cc
      | false ↦ λ off l. streamless_all n (after b e.change) h l (λ s. streamless_after n s b e.change off all) q
    ] refl none

pub no_stream : (n : ℕ) (h : List Entry) → streams_under n h ≡ [] → HasNoStream n (book_of h)
no_stream n h none s f is = subst (Streamless n) is (streamless_all n empty h none (λ q. subst (Streamless n) (sym (get-none q)) tt) s)

-- What a checkpoint makes of settled sessions that have no stream under a number.

-- what holds of each row that is found holds of all
rows_all : {X : Type 0} (es : List (ℕ × X)) (P : ℕ × X → Type 0) → T (is_sorted nat_cmp es) → ((q : ℕ) (x : X) → find nat_cmp q es ≡ Some x → P (q, x)) → AllByRecursion P es
rows_all [] P sorted h = tt
rows_all {X} (e ∷ es) P sorted h =
    let parts = sorted_parts e es sorted in (
      h e.0 e.1 (ap (λ t. cond t (Some e.1) (find nat_cmp e.0 es)) (own e.0)),
      rows_all es P parts.1 (λ q x is. h q x (later parts.0 q x is)),
    )
  where
    later : T (below_all nat_cmp e.0 es) → (q : ℕ) (x : X) → find nat_cmp q es ≡ Some x → cond (tied q e.0) (Some e.1) (find nat_cmp q es) ≡ Some x
    later below q x is =
        at_key e.0 q (λ t. cond t (Some e.1) (find nat_cmp q es) ≡ Some x)
        (λ _ same. absurd (none-some x (sym (below_none e.0 es below) ∙ (sym (ap (λ (k : ℕ). find nat_cmp k es) same) ∙ is))))
        (λ _. is)

-- where each row has a stream, so has one that is found
streaming_at : (es : List (ℕ × Admission)) (q : ℕ) (d : Admission) → all_streaming es ≡ true → find nat_cmp q es ≡ Some d → is_some d.stream ≡ true
streaming_at [] q d all is = absurd (none-some d is)
streaming_at (e ∷ es) q d all is =
    let parts = and_parts (is_some e.1.stream) (all_streaming es) all in
    at_key e.0 q (λ t. cond t (Some e.1) (find nat_cmp q es) ≡ Some d → is_some d.stream ≡ true) (λ _ _ here. let same : e.1 ≡ d = cc in ap (λ (x : Admission). is_some x.stream) (sym same) ∙ parts.0) (λ _ there. streaming_at es q d parts.1 there) is

module _ (n : ℕ) where
  -- taken back, the record is no Hold or Add under the number
  abbrev BackQuiet : List Record → Type 0
  BackQuiet rs = AllFine (λ r. is_use_of n (inverse_of r) ≡ false) rs

  back_append : (rs qs : List Record) → BackQuiet rs → BackQuiet qs → BackQuiet (rs ++ qs)
  back_append rs qs h g = fine-append (λ r. is_use_of n (inverse_of r) ≡ false) rs qs h g

  quiet_undone : (rs : List Record) → BackQuiet rs → Quiet n (undone rs)
  quiet_undone [] h = tt
  quiet_undone (r ∷ rs) h = fine-append (λ r. is_use_of n r ≡ false) (undone rs) (inverse_of r ∷ []) (quiet_undone rs h.1) (h.0, tt)

  back_dropping : (s a : ℕ) (o : Option Stream) → a ≢ n → BackQuiet (dropping s a o)
  back_dropping s a None apart = tt
  back_dropping s a (Some v) apart = (other_number a n (λ e. apart (sym e)), tt)

  back_freeing : (s a : ℕ) (o : Option Thing) → a ≢ n → BackQuiet (freeing s a o)
  back_freeing s a None apart = tt
  back_freeing s a (Some x) apart = (other_number a n (λ e. apart (sym e)), tt)

  back_freeing_rate : (s a : ℕ) (o : Option ℕ) → a ≢ n → BackQuiet (freeing_rate s a o)
  back_freeing_rate s a None apart = tt
  back_freeing_rate s a (Some m) apart = (other_number a n (λ e. apart (sym e)), tt)

  back_row : (s : ℕ) (e : ℕ × Admission) → e.0 ≢ n → BackQuiet (giving_back s e)
  back_row s e apart =
      back_append (dropping s e.0 e.1.stream) (freeing s e.0 e.1.address ++ freeing_rate s e.0 e.1.rate) (back_dropping s e.0 e.1.stream apart)
      (back_append (freeing s e.0 e.1.address) (freeing_rate s e.0 e.1.rate) (back_freeing s e.0 e.1.address apart) (back_freeing_rate s e.0 e.1.rate apart))

  back_rows : (s : ℕ) (es : List (ℕ × Admission)) → AllByRecursion (λ e. e.0 ≢ n) es → BackQuiet (flat_map (giving_back s) es)
  back_rows s [] apart = tt
  back_rows s (e ∷ es) apart = back_append (giving_back s e) (flat_map (giving_back s) es) (back_row s e apart.0) (back_rows s es apart.1)

  back_resetting : (s : ℕ) (p : Phase) → BackQuiet (resetting s p)
  back_resetting s p = elim (is_opening p) as (λ t. BackQuiet (cond t [] (moves s p opening ∷ []))) [ true ↦ tt | false ↦ (refl, tt) ]

  back_unbinding : (s : ℕ) (o : Option (ℕ × ℕ)) → BackQuiet (unbinding s o)
  back_unbinding s None = tt
  back_unbinding s (Some k) = (refl, tt)

  -- in a settled session without a stream under the number no admission has it
  rows_apart : (f : Session) → is_settled f ≡ true → (under f n).stream ≡ None → AllByRecursion (λ e. e.0 ≢ n) (entries f.admissions)
  rows_apart f settled none =
      rows_all (entries f.admissions) (λ e. e.0 ≢ n) (entries_sorted f.admissions) (λ q d is same.
      let there : get f.admissions n ≡ Some d = ap (get f.admissions) (sym same) ∙ (get-entries f.admissions q ∙ is) in
      let stream : d.stream ≡ None = sym (ap (λ (o : Option Admission). (or_bare o).stream) there) ∙ none in
      let no : false ≡ true = sym (ap is_some stream) ∙ streaming_at (entries f.admissions) q d settled is in
      absurd cc)

  quiet_making : (e : ℕ × Session) → is_settled e.1 ≡ true → (under e.1 n).stream ≡ None → Quiet n (making e)
  quiet_making e settled none =
      let f = e.1 in
      let s = e.0 in
      let last : BackQuiet (unbinding s f.binding ++ Close (record { session = s; id = f.id; conn = f.conn; expires = f.expires }) ∷ []) =
      back_append (unbinding s f.binding) (Close (record { session = s; id = f.id; conn = f.conn; expires = f.expires }) ∷ []) (back_unbinding s f.binding) (refl, tt) in
      quiet_undone (ending s f)
      (back_append (resetting s f.phase) (flat_map (giving_back s) (entries f.admissions) ++ (unbinding s f.binding ++ Close (record { session = s; id = f.id; conn = f.conn; expires = f.expires }) ∷ []))
      (back_resetting s f.phase)
      (back_append (flat_map (giving_back s) (entries f.admissions)) (unbinding s f.binding ++ Close (record { session = s; id = f.id; conn = f.conn; expires = f.expires }) ∷ []) (back_rows s (entries f.admissions) (rows_apart f settled none)) last))

  quiet_chosen : (es : List (ℕ × Session)) → AllByRecursion (λ e. (under e.1 n).stream ≡ None) es → Quiet n (flat_map making (filter (λ e. is_settled e.1) es))
  quiet_chosen [] none = tt
  quiet_chosen (e ∷ es) none =
      let rest = quiet_chosen es none.1 in
      let more = filter (λ (e : ℕ × Session). is_settled e.1) es in
      elim (is_settled e.1) as (λ t. is_settled e.1 ≡ t → Quiet n (flat_map making (cond t (e ∷ more) more))) [
        | true ↦ λ on. fine-append (λ r. is_use_of n r ≡ false) (making e) (flat_map making more) (quiet_making e on none.0) rest
        | false ↦ λ _. rest
      ] refl

  pub snapshot_quiet : (by : ℕ) (b : Book) → HasNoStream n b → uses n (entries_by by (snapshot is_settled b)) ≡ []
  snapshot_quiet by b none =
      quiet_entries n by (snapshot is_settled b)
      (quiet_chosen (entries b) (rows_all (entries b) (λ e. (under e.1 n).stream ≡ None) (entries_sorted b) (λ q f is. none q f (get-entries b q ∙ is))))
