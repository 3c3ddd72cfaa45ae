-- The records that give back.
use Rattle.std.specs.Prelude.{ℕ, if◌then◌else◌, List, [], ◌∷◌, ◌++◌, flat_map, Option, Some, None}
use Rattle.std.specs.FinMap.{entries}
use Rattle.rtsp_record.specs.declared.holdings.Thing.{Thing}
use Rattle.rtsp_record.specs.declared.holdings.Thing.TheVariants.{Rate}
use Rattle.rtsp_record.specs.declared.phases.Phase.{Phase}
use Rattle.rtsp_record.specs.declared.streams.Stream.{Stream}
use Rattle.rtsp_record.specs.declared.changes.Record.{Record}
use Rattle.rtsp_record.specs.Records.{closes, frees, drops, moves, unbinds}
use Rattle.rtsp_record.specs.declared.holdings.Admission.{Admission}
use Rattle.rtsp_record.specs.Books.{Session}
use Rattle.rtsp_record.specs.Sums.{is_opening}
use Rattle.rtsp_record.specs.Books.{opening}

-- Drop of the stream where there is one
abbrev pub dropping : ℕ → ℕ → Option Stream → List Record
dropping s a None = []
dropping s a (Some v) = drops s a v ∷ []

-- Free of the thing where there is one
abbrev pub freeing : ℕ → ℕ → Option Thing → List Record
freeing s a None = []
freeing s a (Some x) = frees s a x ∷ []

-- Free of the rate where there is one
abbrev pub freeing_rate : ℕ → ℕ → Option ℕ → List Record
freeing_rate s a None = []
freeing_rate s a (Some n) = frees s a (Rate n) ∷ []

-- what stands under an admission: its stream, its address and its rate, each where there is one
abbrev pub giving_back : ℕ → ℕ × Admission → List Record
giving_back s e = dropping s e.0 e.1.stream ++ (freeing s e.0 e.1.address ++ freeing_rate s e.0 e.1.rate)

-- to the opening phase, unless it is there
abbrev pub resetting : ℕ → Phase → List Record
resetting s p = if is_opening p then [] else moves s p opening ∷ []

-- Unbind where there is a binding
abbrev pub unbinding : ℕ → Option (ℕ × ℕ) → List Record
unbinding s None = []
unbinding s (Some k) = unbinds s k.0 k.1 ∷ []

-- the end of a session: to the opening phase, its admissions in ascending order, its binding, its close
abbrev pub ending : ℕ → Session → List Record
ending s f = resetting s f.phase ++ (flat_map (giving_back s) (entries f.admissions) ++ (unbinding s f.binding ++ closes s f.id f.conn f.expires ∷ []))
