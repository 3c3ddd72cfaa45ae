-- What holds of a chain of rules, from what holds of each.
use Rattle.std.proofs.Common.{Bool, true, false, Option, Some, None, Result, Ok, Err}
use Rattle.std.specs.Prelude.{if◌then◌else◌}
use Rattle.rtsp_state.specs.declared.status.Status.{Status}
use Rattle.rtsp_state.specs.declared.status.Status.TheVariants.{NotFound}
use Rattle.rtsp_state.specs.declared.fault.Fault.{Fault}
use Rattle.rtsp_state.specs.declared.fault.Fault.TheVariants.{Refused}
use Rattle.rtsp_text.specs.Results.{◌>>=◌}
use Rattle.rtsp_state.specs.Fault.{must}
use Rattle.rtsp_state.specs.Context.{known}

-- what holds of the value that is given, and of the fault that it is refused for
abbrev pub Rules : {X : Type 0} → (X → Type 0) → (Fault → Type 0) → Result X Fault → Type 0
Rules P Q (Ok x) = P x
Rules P Q (Err e) = Q e

-- only the fault counts
abbrev pub Faults : {X : Type 0} → (Fault → Type 0) → Result X Fault → Type 0
Faults Q (Ok x) = Unit {0}
Faults Q (Err e) = Q e

pub chain : {A B : Type 0} (P : B → Type 0) (Q : Fault → Type 0) (x : Result A Fault) (f : A → Result B Fault) → Faults Q x → ((a : A) → Rules P Q (f a)) → Rules P Q (x >>= f)
chain P Q (Ok a) f faults rest = rest a
chain P Q (Err e) f faults rest = faults

pub faults_chain : {A B : Type 0} (Q : Fault → Type 0) (x : Result A Fault) (f : A → Result B Fault) → Faults Q x → ((a : A) → Faults Q (f a)) → Faults Q (x >>= f)
faults_chain Q (Ok a) f faults rest = rest a
faults_chain Q (Err e) f faults rest = faults

-- of any fault nothing is said
abbrev pub Whatever : Fault → Type 0
Whatever e = Unit {0}

pub whatever : {A : Type 0} (x : Result A Fault) → Faults Whatever x
whatever (Ok a) = tt
whatever (Err e) = tt

pub follow : {A B : Type 0} (P : B → Type 0) (x : Result A Fault) (f : A → Result B Fault) → ((a : A) → Rules P Whatever (f a)) → Rules P Whatever (x >>= f)
follow P x f rest = chain P Whatever x f (whatever x) rest

pub must_faults : (Q : Fault → Type 0) (b : Bool) (s : Status) → Q (Refused s) → Faults Q (must b s)
must_faults Q true s q = tt
must_faults Q false s q = q

pub known_faults : {A : Type 0} (Q : Fault → Type 0) (o : Option A) → Q (Refused NotFound) → Faults Q (known o)
known_faults Q (Some x) q = tt
known_faults Q None q = q

pub either : {A : Type 0} (P : A → Type 0) (Q : Fault → Type 0) (b : Bool) (x y : Result A Fault) → Rules P Q x → Rules P Q y → Rules P Q (if b then x else y)
either P Q true x y p q = p
either P Q false x y p q = q

pub either_faults : {A : Type 0} (Q : Fault → Type 0) (b : Bool) (x y : Result A Fault) → Faults Q x → Faults Q y → Faults Q (if b then x else y)
either_faults Q true x y p q = p
either_faults Q false x y p q = q
