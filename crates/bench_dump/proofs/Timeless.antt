-- Where no time of day is told, a dump with times of day is the dump.
use Rattle.std.proofs.Common.{◌≡◌, Bool, true, false, ℕ, ◌+◌, List, [], ◌∷◌, length, None, refl, ◌∙◌}
use Rattle.ch11_f1.specs.BodyReading.{Message}
use Rattle.ch11_layout.specs.Stamps.{ticks_of}
use Rattle.ch11_layout.specs.declared.stamps.StampKind.{StampKind}
use Rattle.ch11_layout.specs.declared.stamps.StampKind.TheVariants.{Counter, TimeOfDay, Unknown}
use Rattle.ch11_reader.specs.declared.skip.Skip.{Skip}
use Rattle.ch11_reader.specs.Recording.{Found}
use Rattle.ch11_reader.specs.Listing.{listing}
use Rattle.ch11_reader.specs.Indexed.{found_in}
use Rattle.ch11_reader.specs.Skipping.{packets_read, skips_in}
use Rattle.bench_clock.specs.declared.clock.Mark.{Mark}
use Rattle.bench_clock.specs.Clock.{marks_in, time_at, time_of_stamp}
use Rattle.bench_dump.specs.DumpText.{message_line, message_lines, packet_lines, dump_text}
use Rattle.bench_dump.specs.SkippingText.{skips_behind, lines_in_order, skipping_text, file_text}
use Rattle.bench_dump.specs.TimedText.{AreTimeless, is_of_day, kind_asked, timed_line, timed_lines, timed_in_order, text_by, TimelessIsPlain}

-- a clock that tells no time
abbrev TellsNone : List Mark → Type 0
TellsNone clock = (stamp : ℕ) → time_at clock stamp ≡ None

-- stamps of a kind that tells none either
no_time : (clock : List Mark) → TellsNone clock → (kind : StampKind) → is_of_day kind ≡ false → (ticks : ℕ) → time_of_stamp clock kind ticks ≡ None
no_time clock none Counter other ticks = none ticks
no_time clock none TimeOfDay other ticks = absurd (cc)
no_time clock none Unknown other ticks = refl

plain_line : (n channel : ℕ) (m : Message) → timed_line None n channel m ≡ message_line n channel m
unfolding timed_line message_line
plain_line n channel m = refl

plain_lines : (clock : List Mark) → TellsNone clock → (kind : StampKind) → is_of_day kind ≡ false → (before channel : ℕ) (ms : List Message) → timed_lines clock kind before channel ms ≡ message_lines before channel ms
plain_lines clock none kind other before channel [] = refl
plain_lines clock none kind other before channel (m ∷ ms) =
    rw (no_time clock none kind other (ticks_of kind m.stamp), plain_line (before + 1) channel m, plain_lines clock none kind other (before + 1) channel ms) refl

-- no stamp of packets is told as a time of day
abbrev AreUntold : Bool → List Found → Type 0
AreUntold timed [] = Unit {0}
AreUntold timed (p ∷ ps) = (is_of_day (kind_asked timed p.header) ≡ false) × AreUntold timed ps

none_asked : (ps : List Found) → AreUntold false ps
none_asked [] = tt
none_asked (p ∷ ps) = (refl, none_asked ps)

none_there : (ps : List Found) → AreTimeless ps → AreUntold true ps
none_there [] are = tt
none_there (p ∷ ps) are = (are.0, none_there ps are.1)

plain_in_order : (clock : List Mark) → TellsNone clock → (timed : Bool) (before : ℕ) (skips : List Skip) (ps : List Found) → AreUntold timed ps → timed_in_order clock timed before skips ps ≡ lines_in_order before skips ps
plain_in_order clock none timed before skips [] are = refl
plain_in_order clock none timed before skips (p ∷ ps) are =
    rw (
      plain_lines clock none (kind_asked timed p.header) are.0 before p.header.channel p.messages,
      plain_in_order clock none timed (before + length p.messages) (skips_behind p.offset skips) ps are.1,
    ) refl

-- where nothing was skipped, the dump is that of the packets
no_skips : (before : ℕ) (ps : List Found) → lines_in_order before [] ps ≡ packet_lines before ps
no_skips before [] = refl
no_skips before (p ∷ ps) = rw (no_skips (before + length p.messages) ps) refl

nothing_skipped : (ps : List Found) → skipping_text [] ps ≡ dump_text ps
nothing_skipped ps = no_skips 0 ps

-- the dump without times of day
pub plain_text : (skip : Bool) (file : List ℕ) → text_by false skip file ≡ file_text skip file
plain_text false file = plain_in_order [] (λ stamp. refl) false 0 [] (found_in file) (none_asked (found_in file)) ∙ nothing_skipped (found_in file)
plain_text true file = plain_in_order [] (λ stamp. refl) false 0 (skips_in file) (packets_read file) (none_asked (packets_read file))

unset : (ms : List Mark) → ms ≡ [] → TellsNone ms
unset ms none stamp = rw none refl

pub timeless : TimelessIsPlain
timeless file = (
  λ none are. plain_in_order (marks_in file (listing (found_in file))) (unset (marks_in file (listing (found_in file))) none) true 0 [] (found_in file) (none_there (found_in file) are) ∙ nothing_skipped (found_in file),
  λ none are. plain_in_order (marks_in file (listing (packets_read file))) (unset (marks_in file (listing (packets_read file))) none) true 0 (skips_in file) (packets_read file) (none_there (packets_read file) are),
)
