-- What is found at the front of a text: a head, or less.
use Rattle.std.specs.Prelude.{◌≡◌, ℕ, List, ◌∷◌, length}
use Rattle.rtsp_grammar.specs.Lines.{AreLines, BeginsLines, IsHead, IsBrokenHead, IsOpenHead}
use Rattle.rtsp_grammar.specs.Reading.{folded}
use Rattle.rtsp_grammar.specs.declared.head_at.HeadText.{HeadText}
use Rattle.rtsp_grammar.specs.declared.head_at.HeadAt.{HeadAt}
use Rattle.rtsp_grammar.specs.declared.head_at.HeadAt.TheVariants as heads
use Rattle.rtsp_grammar.specs.declared.head_at.HeaderLinesAt.{HeaderLinesAt}
use Rattle.rtsp_grammar.specs.declared.head_at.HeaderLinesAt.TheVariants as sections

-- header lines, so many without folds, the empty line that ends them, and then rest
pub record HasHeaderLines (text headers : List ℕ) (count : ℕ) (rest : List ℕ) : Type 0 where
  pub lines : List (List ℕ)
  pub begins : BeginsLines text lines (13 ∷ 10 ∷ rest)
  pub are : AreLines headers lines
  pub counted : count ≡ length (folded lines).1

abbrev pub IsHeaderLinesAt : List ℕ → HeaderLinesAt → Type 0
IsHeaderLinesAt text (sections.Ended headers count rest) = HasHeaderLines text headers.now count rest.now
IsHeaderLinesAt text sections.Broken = IsBrokenHead text
IsHeaderLinesAt text sections.Open = IsOpenHead text

-- the lines of a head: the first, and the header lines with their number without folds
pub record HoldsHead (lines : List (List ℕ)) (head : HeadText) : Type 0 where
  pub others : List (List ℕ)
  pub parts : lines ≡ head.first.now ∷ others
  pub are : AreLines head.headers.now others
  pub counted : head.count ≡ length (folded others).1

-- the lines of the head at the front of a text
pub record HasHead (text : List ℕ) (head : HeadText) (len : ℕ) : Type 0 where
  pub lines : List (List ℕ)
  pub is : IsHead text lines len
  pub holds : HoldsHead lines head

abbrev pub IsHeadAt : List ℕ → HeadAt → Type 0
IsHeadAt text (heads.Ended head len) = HasHead text head len
IsHeadAt text heads.Broken = IsBrokenHead text
IsHeadAt text heads.Open = IsOpenHead text
