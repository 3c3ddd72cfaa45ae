-- One step of the reading of header lines.
use Rattle.std.specs.Prelude.{◌≡◌, ℕ, ◌⊎◌, ◌==◌, ◌&&◌, not, List, [], ◌∷◌, ◌++◌, length, Result, Ok, Err, if◌then◌else◌}
use Rattle.std.specs.List.{list_all}
use Rattle.std.specs.Borrow.{Bor}
use Rattle.rtsp_text.specs.Trim.{trimmed}
use Rattle.rtsp_grammar.specs.Bytes.{is_value_byte}
use Rattle.rtsp_grammar.specs.Header.{HeaderText}
use Rattle.rtsp_grammar.specs.Lines.{AreLines}
use Rattle.rtsp_grammar.specs.Reading.{folded, after_folds, header_of}
use Rattle.rtsp_grammar.specs.declared.fault.MessageFault.{MessageFault}
use Rattle.rtsp_grammar.specs.declared.fault.MessageFault.TheVariants.{BadHeader, OutOfMemory}

-- the header of a name that isn't empty, where a colon and a value follow it
abbrev pub named_header : List ℕ → List ℕ → Result HeaderText MessageFault
named_header name [] = Err BadHeader
named_header name (c ∷ value) =
    if c == 58 && not (length name == 0) && list_all is_value_byte (trimmed value)
    then Ok (record { name = name; value = trimmed value })
    else Err BadHeader

-- what the first of these lines continue a line with was added to it, and the rest are the other lines
abbrev pub Unfolds : List ℕ → List ℕ → List (List ℕ) → List ℕ → Type 0
Unfolds old new lines rest = (new ≡ old ++ (folded lines).0) × AreLines rest (after_folds lines)

-- the header that was read was added, or its fault was returned
abbrev pub PushesHeader : {X : Type 0} → Result X MessageFault → List HeaderText → List HeaderText → Result HeaderText MessageFault → Type 0
PushesHeader (Ok x) old new read = (h : HeaderText) × (read ≡ Ok h) × (new ≡ old ++ h ∷ [])
PushesHeader (Err fault) old new read = (fault ≡ OutOfMemory) ⊎ (read ≡ Err fault)

-- what is left are the lines after a line and those that continue it
abbrev pub LeavesLines : Result (Bor (List ℕ)) MessageFault → List (List ℕ) → Type 0
LeavesLines (Ok rest) lines = AreLines rest.now (after_folds lines)
LeavesLines (Err fault) lines = Unit {0}

-- the header of a line with those that continue it was added, and the other lines are left
abbrev pub ReadsHeader : Result (Bor (List ℕ)) MessageFault → List HeaderText → List HeaderText → List ℕ → List (List ℕ) → Type 0
ReadsHeader result old new line lines = PushesHeader result old new (header_of (line ++ (folded lines).0)) × LeavesLines result lines

-- of these lines, whichever they are, the first was read with those that continue it
abbrev pub ReadsFirst : Result (Bor (List ℕ)) MessageFault → List HeaderText → List HeaderText → List ℕ → Type 0
ReadsFirst result old new text = (line : List ℕ) (lines : List (List ℕ)) → AreLines text (line ∷ lines) → ReadsHeader result old new line lines
