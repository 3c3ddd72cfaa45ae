-- A request as it is read once.
use Rattle.std.specs.Prelude.{ℕ, List, Option}
use Rattle.rtsp_grammar.specs.Header.{HeaderText}
use Rattle.rtsp_state.specs.declared.method.Method.{Method}
use Rattle.rtsp_state.specs.declared.request.Target.{Target}
use Rattle.rtsp_state.specs.declared.request.Name.{Name}

pub record ParsedValue : Type 0 where
  pub cseq : ℕ
  pub method : Method
  pub target : Target
  pub name : Option Name
  -- what the method's own rules still read
  pub headers : List HeaderText
  pub body : List ℕ
