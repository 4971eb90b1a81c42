-- A UTC second as text: YYYY-MM-DDTHH:MM:SS (ISO 8601).
use Rattle.std.specs.Prelude.{ℕ, ◌*◌, List, take}
use Rattle.bench_clock.specs.TimeText.{time_text}

-- the text of a second, which is counted from 1970-01-01T00:00:00: that of its time of day without the digits behind
-- the second
abbrev pub second_text : ℕ → List ℕ
second_text second = take 19 (time_text (second * 10000000))
