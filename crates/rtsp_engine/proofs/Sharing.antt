-- Where no place is refused, none is wanting.
use Rattle.std.proofs.Common.{ℕ, Bool, true, false}
use Rattle.rtsp_state.specs.declared.setup_plan.SetupPlan.{SetupPlan}
use Rattle.rtsp_engine.specs.Conducting.{HasPlace, AsksShare, NeverWantsPlace}
use Rattle.rtsp_engine.specs.Desk.{State}
use Rattle.rtsp_traits.specs.Devices.{Devices, LacksPlace, RefusesNone}
use Rattle.rtsp_engine.specs.Drawing.{opens}
use Rattle.rtsp_engine.specs.declared.conducting.SetUp.{SetUp}
use Rattle.rtsp_engine.specs.declared.conducting.SetUp.TheVariants.{NoShare, NoWord, NoNumber, Tried}

module _ {B W C P S : Type 0} (d : Devices B W C P S) where
  wants_none : (opens : Bool) (peer : ℕ) (b c : S) → RefusesNone d.shares → LacksPlace d.shares opens peer b c → ⊥
  wants_none true peer b c none h = none b c peer h.call
  wants_none false peer b c none h = h

  has_place : (peer : ℕ) (plan : SetupPlan) (outcome : SetUp) (s t : State B W C P S) → RefusesNone d.shares → AsksShare d peer plan outcome s t → HasPlace outcome
  has_place peer plan NoShare s t none h = wants_none (opens plan.session) peer s.shares t.shares none h
  has_place peer plan (NoWord at) s t none h = tt
  has_place peer plan (NoNumber at) s t none h = tt
  has_place peer plan (Tried n made) s t none h = tt

  pub never_wants_place : NeverWantsPlace d
  never_wants_place none asker plan response s t run = has_place asker.peer plan run.outcome s t none run.shares
