use Rattle.std.proofs.Common.{◌≡◌, ◌++◌, take}
use Rattle.std.specs.List.{flat_map}
use Rattle.rtsp_metrics.specs.FigureLines.{figure_line}
use Rattle.rtsp_metrics.proofs.families.write_samples.Given as goal

abbrev pub invariant-loop-figure : goal.invariant-loop-figure
invariant-loop-figure l = l.out.items ≡ l.initial.out.items ++ flat_map (figure_line l.name) (take l.figure-index l.figures)
