use Rattle.std.proofs.Common.{nat_eq, sym, ap, ◌∙◌, refl}
use Rattle.std.specs.Prelude.{None, Some, option_and_then}
use Rattle.std.specs.FinMap.{get as row}
use Rattle.std.proofs.lemmas.Bool.{cases_eq, ne_eqb}
use Rattle.indexmap.specs.IndexMap.{get}
use Rattle.rtsp_record.specs.Records.{session_of}
use Rattle.rtsp_record.specs.declared.changes.Record.TheVariants.{Open, Close, Bind, Unbind}
use Rattle.rtsp_index.specs.Naming.{id_of, startup_of}
use Rattle.rtsp_index.proofs.NameLemmas.{names_stay, name_given, name_taken, either_startup, apart_startup, id_row, startup_row, living_binding, bound_row, unbound_row, no_id, no_startup}
use Rattle.rtsp_index.proofs.names.Names.follow.Goals as goal

pub returns-in-Ok-clause-follows : goal.returns-in-Ok-clause-follows
returns-in-Ok-clause-follows c w b =
    let k = c.in-Open.life in
    let id = c.number.ensures in
    let up = c.in-Ok.ensures.updates in
    rw c.in-Open.is (λ f ok. record {
      ids = name_given id_of b (Open k) k.id _ _ (λ j. cases_eq j k.id) ok.ids (λ j h. up.2 j (ne_eqb c.number.result j (λ e. h (sym e ∙ id))))
          (ap (option_and_then id_of) f.allowed.0) (λ q h. no_id b k.id q f.allowed.1.id_free h) refl (ap (λ i. get nat_eq c.insert.new.self i) (sym id) ∙ up.1);
      startups = names_stay startup_of b (Open k) _ (sym (ap (option_and_then startup_of) f.allowed.0)) ok.startups;
    })

pub returns-in-Close-clause-follows : goal.returns-in-Close-clause-follows
returns-in-Close-clause-follows c w b =
    let k = c.in-Close.life in
    let id = c.number-in-Close.ensures in
    let up = c.swap_remove.ensures.updates in
    rw c.in-Close.is (λ f ok. record {
      ids = name_taken id_of b (Close k) k.id _ _ (λ j. cases_eq j k.id) ok.ids (λ j h. up.2 j (ne_eqb c.number-in-Close.result j (λ e. h (sym e ∙ id))))
          (ap (option_and_then id_of) f.allowed.0) refl (ap (λ i. get nat_eq c.swap_remove.new.self i) (sym id) ∙ up.1);
      startups = names_stay startup_of b (Close k) _ (sym (ap (option_and_then startup_of) f.allowed.0)) ok.startups;
    })

pub returns-in-Ok-insert-clause-follows : goal.returns-in-Ok-insert-clause-follows
returns-in-Ok-insert-clause-follows c w b =
    let k = c.in-Bind.binding in
    let up = c.in-Ok-insert.ensures.updates in
    rw c.in-Bind.is (λ f ok. record {
      ids = names_stay id_of b (Bind k) _ (id_row (Bind k) (row b k.session) (λ _ e. absurd cc) (λ _ e. absurd cc)) ok.ids;
      startups = name_given startup_of b (Bind k) (k.conn, k.number) _ _ (either_startup (k.conn, k.number)) ok.startups (λ j h. up.2 j (apart_startup (k.conn, k.number) j h))
          (living_binding (row b k.session) None f.allowed.0) (λ q h. no_startup b k.conn k.number q f.allowed.1 h) (bound_row (row b k.session) k f.allowed.0) up.1;
    })

pub returns-in-Unbind-clause-follows : goal.returns-in-Unbind-clause-follows
returns-in-Unbind-clause-follows c w b =
    let k = c.in-Unbind.binding in
    let up = c.swap_remove-in-Unbind.ensures.updates in
    rw c.in-Unbind.is (λ f ok. record {
      ids = names_stay id_of b (Unbind k) _ (id_row (Unbind k) (row b k.session) (λ _ e. absurd cc) (λ _ e. absurd cc)) ok.ids;
      startups = name_taken startup_of b (Unbind k) (k.conn, k.number) _ _ (either_startup (k.conn, k.number)) ok.startups (λ j h. up.2 j (apart_startup (k.conn, k.number) j h))
          (living_binding (row b k.session) (Some (k.conn, k.number)) f.allowed.0) (unbound_row (row b k.session) k) up.1;
    })

pub returns-in_default-clause-follows : goal.returns-in_default-clause-follows
returns-in_default-clause-follows c w b f ok =
    let r = c.args.change.now in
    let o = row b (session_of r) in
    record {
      ids = names_stay id_of b r _ (id_row r o c.in_default.not-Open c.in_default.not-Close) ok.ids;
      startups = names_stay startup_of b r _ (startup_row r o f.allowed.0 c.in_default.not-Bind c.in_default.not-Unbind) ok.startups;
    }
