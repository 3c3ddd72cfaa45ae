-- What is drawn for an admission: words first, and then numbers.
use Rattle.std.specs.Prelude.{◌≡◌, ℕ, ◌-◌, ◌^◌, Bool, true, false}
use Rattle.rtsp_lock.specs.declared.view.View.{View}
use Rattle.rtsp_lock.specs.Calls.{Looked, Drew}
use Rattle.rtsp_state.specs.declared.setup_plan.SetupSession.{SetupSession}
use Rattle.rtsp_state.specs.declared.setup_plan.SetupSession.TheVariants.{New, Living}
use Rattle.rtsp_traits.specs.Devices.{WordCalls, Gave, Lacked}
use Rattle.rtsp_engine.specs.declared.drawing.GivenWords.{GivenWords}
use Rattle.rtsp_engine.specs.declared.drawing.Lacking.{Lacking}
use Rattle.rtsp_engine.specs.declared.drawing.Lacking.TheVariants as lacking
use Rattle.rtsp_engine.specs.declared.drawing.AdmissionNumbers.{AdmissionNumbers}
use Rattle.rtsp_engine.specs.declared.drawing.Spent.{Spent}
use Rattle.rtsp_engine.specs.declared.drawing.Spent.TheVariants as spent

-- a session is opened
abbrev pub opens : SetupSession → Bool
opens (New expires startup) = true
opens (Living key) = false

module _ {W : Type 0} (calls : WordCalls W) where
  -- an id is taken where a session is opened
  abbrev pub GivesId : Bool → ℕ → W → W → Type 0
  GivesId true word b c = Gave calls calls.ids word b c
  GivesId false word b c = c ≡ b

  abbrev pub LacksId : Bool → W → W → Type 0
  LacksId true b c = Lacked calls b c
  LacksId false b c = ⊥

  -- the words of an admission, in this order
  pub record GivesWords (opens : Bool) (given : GivenWords) (b c : W) : Type 0 where
    pub after_id : W
    pub after_ssrc : W
    pub after_seq : W
    pub id : GivesId opens given.id b after_id
    pub ssrc : Gave calls calls.ssrcs given.ssrc after_id after_ssrc
    pub seq : Gave calls calls.seqs given.seq after_ssrc after_seq
    pub rtptime : Gave calls calls.rtptimes given.rtptime after_seq c

  -- no synchronization source can be had
  pub record LacksSsrc (opens : Bool) (b c : W) : Type 0 where
    pub id : ℕ
    pub after_id : W
    pub gives_id : GivesId opens id b after_id
    pub lacked : Lacked calls after_id c

  -- no sequence number can be had
  pub record LacksSeq (opens : Bool) (b c : W) : Type 0 where
    pub id : ℕ
    pub ssrc : ℕ
    pub after_id : W
    pub after_ssrc : W
    pub gives_id : GivesId opens id b after_id
    pub gives_ssrc : Gave calls calls.ssrcs ssrc after_id after_ssrc
    pub lacked : Lacked calls after_ssrc c

  -- no timestamp can be had
  pub record LacksRtptime (opens : Bool) (b c : W) : Type 0 where
    pub id : ℕ
    pub ssrc : ℕ
    pub seq : ℕ
    pub after_id : W
    pub after_ssrc : W
    pub after_seq : W
    pub gives_id : GivesId opens id b after_id
    pub gives_ssrc : Gave calls calls.ssrcs ssrc after_id after_ssrc
    pub gives_seq : Gave calls calls.seqs seq after_ssrc after_seq
    pub lacked : Lacked calls after_seq c

  -- the first of them that can't be had
  abbrev pub LacksWord : Bool → Lacking → W → W → Type 0
  LacksWord opens lacking.Id b c = LacksId opens b c
  LacksWord opens lacking.Ssrc b c = LacksSsrc opens b c
  LacksWord opens lacking.Seq b c = LacksSeq opens b c
  LacksWord opens lacking.Rtptime b c = LacksRtptime opens b c

-- a number was drawn
pub record Draws (n : ℕ) (v u : View) : Type 0 where
  pub looked : Looked v u
  pub drew : Drew v u n

-- no number is left
pub record DrawsNone (v u : View) : Type 0 where
  pub looked : Looked v u
  pub next : u.next ≡ 2 ^ 64 - 1

-- the number of a session that is opened is drawn, whose id is given, and then the admission's
pub record DrawsBoth (id : ℕ) (n : AdmissionNumbers) (v u : View) : Type 0 where
  pub named : n.key.id ≡ id
  pub between : View
  pub session : Draws n.key.session v between
  pub admission : Draws n.admission between u

-- the session's number is drawn, and none is left for the admission
pub record LacksAdmission (v u : View) : Type 0 where
  pub session : ℕ
  pub between : View
  pub draws : Draws session v between
  pub lacks : DrawsNone between u

-- the numbers of an admission: a living session keeps its own
abbrev pub DrawsNumbers : SetupSession → ℕ → AdmissionNumbers → View → View → Type 0
DrawsNumbers (New expires startup) id n v u = DrawsBoth id n v u
DrawsNumbers (Living key) id n v u = (n.key ≡ key) × Draws n.admission v u

-- the first of them that isn't left
abbrev pub LacksNumber : SetupSession → Spent → View → View → Type 0
LacksNumber (New expires startup) spent.Session v u = DrawsNone v u
LacksNumber (New expires startup) spent.Admission v u = LacksAdmission v u
LacksNumber (Living key) spent.Session v u = ⊥
LacksNumber (Living key) spent.Admission v u = DrawsNone v u
