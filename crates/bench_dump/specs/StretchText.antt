-- What a dump prints of a stretch of a recording that may be damaged.
use Rattle.std.specs.Prelude.{ℕ, ◌+◌, ◌<◌, ◌^◌, Bool, List, [], ◌∷◌, ◌++◌, length}
use Rattle.ch11_f1.specs.BodyReading.{Message}
use Rattle.ch11_stream.specs.declared.stretch.Stretch.{Stretch}
use Rattle.ch11_stream.specs.declared.stretch.Stretch.TheVariants.{Sound, Skipped}
use Rattle.bench_clock.specs.declared.clock.Mark.{Mark}
use Rattle.bench_dump.specs.DumpText.{packet_line}
use Rattle.bench_dump.specs.SkippingText.{skip_lines}
use Rattle.bench_dump.specs.TimedText.{kind_asked, timed_lines}

-- the line of a packet and those of its messages, or that of a skip
abbrev pub stretch_lines : List Mark → Bool → Stretch → List Message → List ℕ
stretch_lines clock timed (Sound p) given = packet_line p.offset p.header p.count
    ++ timed_lines clock (kind_asked timed p.header) p.before p.header.channel given
stretch_lines clock timed (Skipped s) given = skip_lines (s ∷ [])

-- the messages of a stretch have numbers below 2^64
abbrev pub IsFew : Stretch → List Message → Type 0
IsFew (Sound p) given = p.before + length given < 2 ^ 64
IsFew (Skipped s) given = Unit {0}
