-- Words one by one (own choice).
use Rattle.std.specs.Prelude.{List, [], ◌∷◌, Option, Some, None}
use Rattle.text_lines.specs.Words.{Text}
use Rattle.job_file.specs.Options.{◌>>=◌}

-- the first word and those behind it; exactly one word, or two, three or four
abbrev pub first : List Text → Option (Text × List Text)
first [] = None
first (w ∷ ws) = Some (w, ws)

abbrev pub ended : {X : Type 0} → List Text → X → Option X
ended [] x = Some x
ended (w ∷ ws) x = None

unfoldable pub one : List Text → Option Text
one ws = first ws >>= (λ a. ended a.1 a.0)

unfoldable pub two : List Text → Option (Text × Text)
two ws = first ws >>= (λ a. one a.1 >>= (λ b. Some (a.0, b)))

unfoldable pub three : List Text → Option (Text × Text × Text)
three ws = first ws >>= (λ a. two a.1 >>= (λ b. Some (a.0, b.0, b.1)))

unfoldable pub four : List Text → Option (Text × Text × Text × Text)
four ws = first ws >>= (λ a. three a.1 >>= (λ b. Some (a.0, b.0, b.1, b.2)))

-- the first three words and those behind them
unfoldable pub front : List Text → Option ((Text × Text × Text) × List Text)
front ws = first ws >>= (λ a. first a.1 >>= (λ b. first b.1 >>= (λ c. Some ((a.0, b.0, c.0), c.1))))
