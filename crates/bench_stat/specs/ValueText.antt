-- What stands in the row of a figure (own choice).
use Rattle.std.specs.Prelude.{[], codes, decimal, option_map}
use Rattle.text_lines.specs.Words.{Text}
use Rattle.bench_clock.specs.Time.{time_of}
use Rattle.bench_stat.specs.declared.figure_rows.Value.{Value}
use Rattle.bench_stat.specs.declared.figure_rows.Value.TheVariants.{Count, Hundredths, Ticks, Day, Unknown}
use Rattle.bench_stat.specs.RowText.{hundredths_field, ticks_field}
use Rattle.bench_stat.specs.UnitText.{day_text}

abbrev pub value_text : Value → Text
value_text (Count count) = decimal count
value_text (Hundredths number) = hundredths_field number
value_text (Ticks ticks) = ticks_field ticks
value_text (Day time) = day_text [] (option_map (λ t. time_of t) time)
value_text Unknown = codes "-"
