-- What a stretch of a recording that may be damaged tells of the time: a sound packet what it does in any recording,
-- and skipped bytes nothing.
use Rattle.std.specs.Prelude.{ℕ, Bool, ◌||◌, List, [], Option}
use Rattle.ch11_stream.specs.declared.stretch.Stretch.{Stretch}
use Rattle.ch11_stream.specs.declared.stretch.Stretch.TheVariants.{Sound, Skipped}
use Rattle.bench_clock.specs.declared.clock.Mark.{Mark}
use Rattle.bench_clock.specs.Clock.{is_time, last_behind, mark_of, told_in}

-- the mark that it makes behind a last counter, by the bytes that are kept of it, and the last counter behind it
abbrev pub marks_of : Option ℕ → Option ℕ → Stretch → List ℕ → List Mark
marks_of named last (Sound p) kept = mark_of last p.header.counter (told_in named p.header kept)
marks_of named last (Skipped s) kept = []

abbrev pub last_of : Option ℕ → Option ℕ → Stretch → List ℕ → Option ℕ
last_of named last (Sound p) kept = last_behind last p.header.counter (told_in named p.header kept)
last_of named last (Skipped s) kept = last

-- there was a time packet of the channel that is named before, or this is one
abbrev pub or_time : Bool → Option ℕ → Stretch → Bool
or_time any named (Sound p) = any || is_time named p.header
or_time any named (Skipped s) = any
