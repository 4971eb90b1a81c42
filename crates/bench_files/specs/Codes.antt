-- What a file that a command writes is called (own choice).
use Rattle.std.specs.Prelude.{ℕ, List, codes}
use Rattle.bench_files.specs.declared.kind.Kind.{Kind}
use Rattle.bench_files.specs.declared.kind.Kind.TheVariants.{Recording, Report, Image, Rows, Picture, Verdicts}
use Rattle.bench_files.specs.declared.kind.Kind.TheVariants.{Waves, Page, Job}

abbrev pub kind_text : Kind → List ℕ
kind_text Recording = codes "recording"
kind_text Report = codes "report"
kind_text Image = codes "image"
kind_text Rows = codes "table of messages"
kind_text Picture = codes "picture"
kind_text Verdicts = codes "JUnit report"
kind_text Waves = codes "value change dump"
kind_text Page = codes "page"
kind_text Job = codes "job of a recording"
