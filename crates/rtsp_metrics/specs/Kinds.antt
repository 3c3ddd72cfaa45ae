-- What the figures count requests and answers by.
use Rattle.std.specs.Prelude.{◌≡◌, ◌≢◌, ◌≤◌, ◌<◌, ◌/◌, ℕ, List, Option, Some, None, codes}
use Rattle.rtsp_metrics.specs.declared.kinds.Method.{Method}
use Rattle.rtsp_metrics.specs.declared.kinds.Method.TheVariants as methods
use Rattle.rtsp_metrics.specs.declared.kinds.Outcome.{Outcome}
use Rattle.rtsp_metrics.specs.declared.kinds.Outcome.TheVariants as outcomes
use Rattle.rtsp_metrics.specs.declared.kinds.Refusal.{Refusal}
use Rattle.rtsp_metrics.specs.declared.kinds.Refusal.TheVariants as refusals

-- the name of a method, where it is counted by itself (RFC 7826 section 13)
abbrev pub name_of : Method → Option (List ℕ)
name_of methods.Options = Some (codes "OPTIONS")
name_of methods.Describe = Some (codes "DESCRIBE")
name_of methods.Setup = Some (codes "SETUP")
name_of methods.Play = Some (codes "PLAY")
name_of methods.Pause = Some (codes "PAUSE")
name_of methods.Teardown = Some (codes "TEARDOWN")
name_of methods.GetParameter = Some (codes "GET_PARAMETER")
name_of methods.SetParameter = Some (codes "SET_PARAMETER")
name_of methods.Other = None

-- a request is counted under the method that has its name, and under `Other` where none has
abbrev pub IsMethodOf : List ℕ → Method → Type 0
IsMethodOf name methods.Other = (known : Method) → name_of known ≢ Some name
IsMethodOf name method = name_of method ≡ Some name

-- a status is counted by its first digit (RFC 7826 section 8.1.1), one of no class under the nearest
abbrev pub IsOutcomeOf : ℕ → Outcome → Type 0
IsOutcomeOf status outcomes.Success = status / 100 ≤ 2
IsOutcomeOf status outcomes.Redirection = status / 100 ≡ 3
IsOutcomeOf status outcomes.ClientError = status / 100 ≡ 4
IsOutcomeOf status outcomes.ServerError = 5 ≤ status / 100

-- the status of a refusal that is counted by itself (RFC 7826 section 17.4)
abbrev pub status_of : Refusal → Option ℕ
status_of refusals.Bandwidth = Some 453
status_of refusals.Unavailable = Some 503
status_of refusals.Session = Some 454
status_of refusals.Path = Some 404
status_of refusals.State = Some 455
status_of refusals.Transport = Some 461
status_of refusals.Credentials = Some 401
status_of refusals.Other = None

-- a status of 400 and above is a refusal: it is counted under the one that has it, and under `Other` where none has
abbrev pub IsRefusalOf : ℕ → Option Refusal → Type 0
IsRefusalOf status None = status < 400
IsRefusalOf status (Some refusals.Other) = (400 ≤ status) × ((known : Refusal) → status_of known ≢ Some status)
IsRefusalOf status (Some refusal) = status_of refusal ≡ Some status
