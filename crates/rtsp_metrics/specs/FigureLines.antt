-- The lines of figures as the code has them.
use Rattle.std.specs.Prelude.{ℕ, List, decimal}
use Rattle.rtsp_metrics.specs.declared.families.Figure.{Figure}
use Rattle.rtsp_metrics.specs.declared.families.Figure.TheVariants.{Count, Sum, Answers, Seconds, Eighths}
use Rattle.rtsp_metrics.specs.Families.{sample_line, sample_lines, seconds_text, eighths_text}
use Rattle.rtsp_metrics.specs.Figures.{method_samples}

-- the line of a figure, or those of a method
abbrev pub figure_line : List ℕ → Figure → List ℕ
figure_line name (Count mark n) = sample_line name mark.now (decimal n)
figure_line name (Sum mark n) = sample_line name mark.now (decimal n)
figure_line name (Answers method n) = sample_lines name (method_samples method.now n)
figure_line name (Seconds mark ms) = sample_line name mark.now (seconds_text ms)
figure_line name (Eighths mark bits) = sample_line name mark.now (eighths_text bits)
