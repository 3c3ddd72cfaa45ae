-- Families of figures, and their text (OpenMetrics 1.0).
use Rattle.std.specs.Prelude.{ℕ, ◌/◌, ◌%◌, ◌*◌, List, [], ◌∷◌, ◌++◌, Option, Some, None, codes, decimal}
use Rattle.std.specs.List.{concat}
use Rattle.rtsp_text.specs.Decimal.{three_digits}
use Rattle.rtsp_metrics.specs.declared.snapshot.Held.{Held}

-- One figure: what stands behind the name of its family, and its value.
pub record Sample : Type 0 where
  pub mark : List ℕ
  pub value : List ℕ

-- Figures of one name: what kind they are, the unit in which the name ends if there is one, what they say, and each of them.
pub record Family : Type 0 where
  pub name : List ℕ
  pub kind : List ℕ
  pub unit : Option (List ℕ)
  pub help : List ℕ
  pub samples : List Sample

-- the line of the unit
abbrev pub unit_line : List ℕ → Option (List ℕ) → List ℕ
unit_line name None = []
unit_line name (Some unit) = concat (codes "# UNIT " ∷ name ∷ codes " " ∷ unit ∷ codes "\n" ∷ [])

-- the lines before the figures
unfoldable pub head_text : List ℕ → List ℕ → Option (List ℕ) → List ℕ → List ℕ
head_text name kind unit help =
    concat (codes "# TYPE " ∷ name ∷ codes " " ∷ kind ∷ codes "\n" ∷ unit_line name unit ∷ codes "# HELP " ∷ name ∷ codes " " ∷ help ∷ codes "\n" ∷ [])

-- the line of a figure
unfoldable pub sample_line : List ℕ → List ℕ → List ℕ → List ℕ
sample_line name mark value = concat (name ∷ mark ∷ codes " " ∷ value ∷ codes "\n" ∷ [])

-- a line for each figure
abbrev pub sample_lines : List ℕ → List Sample → List ℕ
sample_lines name [] = []
sample_lines name (s ∷ samples) = sample_line name s.mark s.value ++ sample_lines name samples

-- the lines of a family
abbrev pub family_text : Family → List ℕ
family_text f = head_text f.name f.kind f.unit f.help ++ sample_lines f.name f.samples

-- the lines of several families
abbrev pub families_text : List Family → List ℕ
families_text [] = []
families_text (f ∷ families) = family_text f ++ families_text families

-- the whole text, with the lines of further families
abbrev pub exposition : List Family → List ℕ → List ℕ
exposition families further = families_text families ++ (further ++ codes "# EOF\n")

-- seconds with three decimals
abbrev pub seconds_text : ℕ → List ℕ
seconds_text ms = decimal (ms / 1000) ++ (codes "." ++ three_digits ms)

-- bits in bytes, with three decimals, which is exact
abbrev pub eighths_text : ℕ → List ℕ
eighths_text bits = decimal (bits / 8) ++ (codes "." ++ three_digits (bits % 8 * 125))

-- one value that goes up and down
abbrev pub gauge : List ℕ → Option (List ℕ) → List ℕ → ℕ → Family
gauge name unit help value = record { name = name; kind = codes "gauge"; unit = unit; help = help; samples = record { mark = []; value = decimal value } ∷ [] }

-- one count that only grows
abbrev pub counter : List ℕ → List ℕ → ℕ → Family
counter name help value =
    record { name = name; kind = codes "counter"; unit = None; help = help; samples = record { mark = codes "_total"; value = decimal value } ∷ [] }

-- what is held of a whole, and what is free
abbrev pub held_and_free : List ℕ → Option (List ℕ) → List ℕ → Held → Family
held_and_free name unit help of =
    record {
      name = name;
      kind = codes "gauge";
      unit = unit;
      help = help;
      samples = record { mark = codes "{state=\"held\"}"; value = decimal of.held } ∷ record { mark = codes "{state=\"free\"}"; value = decimal of.free } ∷ [];
    }
