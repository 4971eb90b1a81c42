-- Stretches printed in their order, and the text of packets with skips among them.
use Rattle.std.proofs.Common.{◌≡◌, Bool, ℕ, zero, suc, ◌+◌, ◌<◌, ◌≤◌, ◌^◌, true, false, ltb, List, [], ◌∷◌, ◌++◌, length, drop, Option, Some, Result, Ok, Err, refl, sym, ap, subst, ◌∙◌, append_assoc, arith}
use Rattle.std.proofs.lemmas.Bool.{le-ltb, lt-ltb}
use Rattle.std.proofs.lemmas.List.{append-nil}
use Rattle.std.specs.Io.KnownBytes.{Appends}
use Rattle.ch11_header.specs.declared.header.Header.{Header}
use Rattle.ch11_reader.specs.declared.error.PacketFault.{PacketFault}
use Rattle.ch11_reader.specs.declared.packet.Packet.{Packet}
use Rattle.ch11_reader.specs.declared.skip.Skip.{Skip}
use Rattle.ch11_reader.specs.Contents.{total_in}
use Rattle.ch11_reader.specs.Recording.{Found, packet_at}
use Rattle.ch11_reader.specs.Skipping.{Stretch, Read, Skipped, bytes_before, first_size, first_stretch, packets_among, packets_read, skips_among, skips_in, stretches_from, stretches_in}
use Rattle.ch11_reader.proofs.Stretches.{in_turn, some_before}
use Rattle.ch11_stream.specs.Reading.{IsEnd, IsStep, Reading, at_start, last_found}
use Rattle.ch11_stream.specs.declared.stretch.Stretch as stretch
use Rattle.ch11_stream.specs.declared.stretch.Stretch.TheVariants as stretches
use Rattle.ch11_stream.specs.Stretches.{IsNextStretch, IsSkip}
use Rattle.ch11_stream.proofs.Skips.{IsBetween, between_end, between_sound, between_skipped, between_start}
use Rattle.bench_clock.specs.declared.clock.Mark.{Mark}
use Rattle.bench_dump.specs.DumpText.{packet_line}
use Rattle.bench_dump.specs.Printing.{Carries}
use Rattle.bench_dump.specs.SkippingText.{skip_line, skip_lines, skips_before, skips_behind, file_text}
use Rattle.bench_dump.specs.StretchText.{IsFew, stretch_lines}
use Rattle.bench_dump.specs.TimedText.{kind_asked, timed_in_order, timed_lines, timed_text}
use Rattle.bench_dump.proofs.Packets.{carries_both}
use Rattle.bench_dump.proofs.Steps.{appends_both, carries_nothing}
use Rattle.bench_dump.proofs.Timeless.{plain_text}

-- the lines of stretches, behind so many messages
abbrev pub lines_in_turn : List Mark → Bool → ℕ → List Stretch → List ℕ
lines_in_turn clock timed before [] = []
lines_in_turn clock timed before (Read p ∷ others) = packet_line p.offset p.header (length p.messages) ++ (timed_lines clock (kind_asked timed p.header) before p.header.channel p.messages ++ lines_in_turn clock timed (before + length p.messages) others)
lines_in_turn clock timed before (Skipped s ∷ others) = skip_line s ++ lines_in_turn clock timed before others

-- ---- stretches stand in the order of their offsets

abbrev InOrder : ℕ → List Stretch → Type 0
InOrder offset [] = Unit {0}
InOrder offset (Read p ∷ others) = (offset ≤ p.offset) × InOrder p.offset others
InOrder offset (Skipped s ∷ others) = (offset ≤ s.offset) × InOrder (suc s.offset) others

in_order_from : (least offset : ℕ) (ss : List Stretch) → least ≤ offset → InOrder offset ss → InOrder least ss
in_order_from least offset [] le o = tt
in_order_from least offset (Read p ∷ others) le o = (omega (arith, le, o.0), o.1)
in_order_from least offset (Skipped s ∷ others) le o = (omega (arith, le, o.0), o.1)

first_in_order : (offset : ℕ) (read : Result Header PacketFault) (b : ℕ) (bs : List ℕ) (others : List Stretch) → packet_at (b ∷ bs) ≡ read → InOrder (offset + first_size read (b ∷ bs)) others → InOrder offset (first_stretch offset read (b ∷ bs) ∷ others)
first_in_order offset (Ok h) b bs others is o = (omega arith, in_order_from offset (offset + h.packet_length) others (omega arith) o)
first_in_order offset (Err f) b bs others is o =
    let some : 0 < bytes_before (b ∷ bs) = some_before (b ∷ bs) f (omega arith) is in
    (omega arith, in_order_from (suc offset) (offset + bytes_before (b ∷ bs)) others (omega (arith, some)) o)

stretches_in_order : (most offset : ℕ) (bytes : List ℕ) → InOrder offset (stretches_from most offset bytes)
unfolding stretches_from
stretches_in_order zero offset bytes = tt
stretches_in_order (suc most) offset [] = tt
stretches_in_order (suc most) offset (b ∷ bs) =
    let size : ℕ = first_size (packet_at (b ∷ bs)) (b ∷ bs) in
    first_in_order offset (packet_at (b ∷ bs)) b bs (stretches_from most (offset + size) (drop size (b ∷ bs))) refl (stretches_in_order most (offset + size) (drop size (b ∷ bs)))

-- no skip stands in front of the first stretch
none_in_front : (offset : ℕ) (ss : List Stretch) → InOrder offset ss → (skips_before offset (skips_among ss) ≡ []) × (skips_behind offset (skips_among ss) ≡ skips_among ss)
none_in_front offset [] o = (refl, refl)
none_in_front offset (Read p ∷ others) o = none_in_front offset others (in_order_from offset p.offset others o.0 o.1)
none_in_front offset (Skipped s ∷ others) o = let test : ltb s.offset offset ≡ false = le-ltb s.offset offset o.0 in rw test (refl, refl)

-- the first packet stands at an offset or behind it
abbrev FirstFrom : ℕ → List Found → Type 0
FirstFrom offset [] = Unit {0}
FirstFrom offset (p ∷ ps) = offset ≤ p.offset

first_packet : (offset : ℕ) (ss : List Stretch) → InOrder offset ss → FirstFrom offset (packets_among ss)
first_packet offset [] o = tt
first_packet offset (Read p ∷ others) o = o.0
first_packet offset (Skipped s ∷ others) o = first_packet offset others (in_order_from offset (suc s.offset) others (omega (arith, o.0)) o.1)

-- a skip in front of all packets comes first
skip_first : (clock : List Mark) (timed : Bool) (before : ℕ) (s : Skip) (skips : List Skip) (ps : List Found) → FirstFrom (suc s.offset) ps → timed_in_order clock timed before (s ∷ skips) ps ≡ skip_line s ++ timed_in_order clock timed before skips ps
skip_first clock timed before s skips [] o = refl
skip_first clock timed before s skips (p ∷ ps) o =
    let test : ltb s.offset p.offset ≡ true = lt-ltb s.offset p.offset (omega (arith, o)) in
    rw test (append_assoc (skip_line s) (skip_lines (skips_before p.offset skips)) (packet_line p.offset p.header (length p.messages) ++ (timed_lines clock (kind_asked timed p.header) before p.header.channel p.messages ++ timed_in_order clock timed (before + length p.messages) (skips_behind p.offset skips) ps)))

turn_is_order : (clock : List Mark) (timed : Bool) (before offset : ℕ) (ss : List Stretch) → InOrder offset ss → lines_in_turn clock timed before ss ≡ timed_in_order clock timed before (skips_among ss) (packets_among ss)
turn_is_order clock timed before offset [] o = refl
turn_is_order clock timed before offset (Read p ∷ others) o =
    let none = none_in_front p.offset others o.1 in
    rw (none.0, none.1, turn_is_order clock timed (before + length p.messages) p.offset others o.1) refl
turn_is_order clock timed before offset (Skipped s ∷ others) o =
    ap (λ (l : List ℕ). skip_line s ++ l) (turn_is_order clock timed before (suc s.offset) others o.1) ∙ sym (skip_first clock timed before s (skips_among others) (packets_among others) (first_packet (suc s.offset) others o.1))

whole_text : (clock : List Mark) (timed : Bool) (file : List ℕ) → lines_in_turn clock timed 0 (stretches_in file) ≡ timed_text clock timed (skips_in file) (packets_read file)
whole_text clock timed file = turn_is_order clock timed 0 0 (stretches_in file) (stretches_in_order (length file) 0 file)

-- ---- the stretches so far, newest first, were printed

pub record IsPrinted (clock : List Mark) (timed : Bool) (file : List ℕ) (got gets : Option (List ℕ)) (waits : List ℕ) (now : Reading) : Type 0 where
  pub earlier : List Stretch
  pub between : IsBetween file now earlier
  pub more : List ℕ
  pub carried : Carries got [] gets waits more
  pub lines : (others : List Stretch) → more ++ lines_in_turn clock timed (total_in now.earlier) others ≡ lines_in_turn clock timed 0 (in_turn earlier others)

pub nothing_printed : (clock : List Mark) (timed : Bool) (file : List ℕ) (got : Option (List ℕ)) (waits : List ℕ) → waits ≡ [] → IsPrinted clock timed file got got waits (at_start (Some file))
nothing_printed clock timed file got waits none = rw none record { earlier = []; between = between_start file; more = []; carried = carries_nothing got []; lines = λ others. refl }

regroup : (more packet messages rest : List ℕ) → (more ++ (packet ++ messages)) ++ rest ≡ more ++ (packet ++ (messages ++ rest))
regroup more packet messages rest = simp append_assoc

-- the line of the packet that was read, and those of its messages
abbrev lines_of : List Mark → Bool → Reading → Packet → List ℕ
lines_of clock timed now p = packet_line p.offset p.header p.count ++ timed_lines clock (kind_asked timed p.header) p.before p.header.channel now.given

sound_printed : (clock : List Mark) (timed : Bool) (file : List ℕ) (got mid gets : Option (List ℕ)) (waits then : List ℕ) (before now : Reading) (p : Packet) → IsStep before now p → IsPrinted clock timed file got mid waits before
    → Carries mid waits gets then (lines_of clock timed now p) → IsPrinted clock timed file got gets then now
sound_printed clock timed file got mid gets waits then before now p s g on = record {
  earlier = Read (last_found now p) ∷ g.earlier;
  between = between_sound file before now g.earlier p s g.between;
  more = g.more ++ lines_of clock timed now p;
  carried = carries_both got mid gets [] waits then g.more (lines_of clock timed now p) g.carried on;
  lines = λ others.
      let total : length now.given + total_in before.earlier ≡ total_in before.earlier + length now.given = omega arith in
      let front : p.before ≡ total_in before.earlier = ap (λ (x : Packet). x.before) s.listed in
      let count : p.count ≡ length now.given = ap (λ (x : Packet). x.count) s.listed in
      regroup g.more (packet_line p.offset p.header p.count) (timed_lines clock (kind_asked timed p.header) p.before p.header.channel now.given) (lines_in_turn clock timed (total_in now.earlier) others)
      ∙ ap (λ (l : List ℕ). g.more ++ l) (rw (s.entered, total, front, count) refl) ∙ g.lines (Read (last_found now p) ∷ others);
}

skip_printed : (clock : List Mark) (timed : Bool) (file : List ℕ) (got mid gets : Option (List ℕ)) (waits then : List ℕ) (before now : Reading) (s : Skip) → IsSkip before now s → IsPrinted clock timed file got mid waits before
    → Carries mid waits gets then (skip_lines (s ∷ [])) → IsPrinted clock timed file got gets then now
skip_printed clock timed file got mid gets waits then before now s k g on = record {
  earlier = Skipped s ∷ g.earlier;
  between = between_skipped file before now g.earlier s k g.between;
  more = g.more ++ skip_lines (s ∷ []);
  carried = carries_both got mid gets [] waits then g.more (skip_lines (s ∷ [])) g.carried on;
  lines = λ others.
      append_assoc g.more (skip_lines (s ∷ [])) (lines_in_turn clock timed (total_in now.earlier) others)
      ∙ ap (λ (l : List ℕ). g.more ++ l) (rw (append-nil (skip_line s), k.same) refl) ∙ g.lines (Skipped s ∷ others);
}

pub stretch_printed : (clock : List Mark) (timed : Bool) (file : List ℕ) (got mid gets : Option (List ℕ)) (waits then : List ℕ) (before now : Reading) (s : stretch.Stretch) → IsNextStretch (Ok (Some s)) before now
    → IsPrinted clock timed file got mid waits before → Carries mid waits gets then (stretch_lines clock timed s now.given) → IsPrinted clock timed file got gets then now
stretch_printed clock timed file got mid gets waits then before now (stretches.Sound p) s g on = sound_printed clock timed file got mid gets waits then before now p s g on
stretch_printed clock timed file got mid gets waits then before now (stretches.Skipped k) s g on = skip_printed clock timed file got mid gets waits then before now k s g on

-- the messages of a stretch that was read can be numbered
pub stretch_few : (before now : Reading) (s : stretch.Stretch) → IsNextStretch (Ok (Some s)) before now → IsFew s now.given
stretch_few before now (stretches.Sound p) s =
    let front : p.before ≡ total_in before.earlier = ap (λ (x : Packet). x.before) s.listed in
    let few : length now.given + total_in before.earlier < 2 ^ 64 = rw s.entered at s.few in
    omega (arith, front, few)
stretch_few before now (stretches.Skipped k) s = tt

pub all_printed : (clock : List Mark) (timed : Bool) (file : List ℕ) (got mid gets : Option (List ℕ)) (waits : List ℕ) (now last : Reading) → IsEnd now last → IsPrinted clock timed file got mid waits now → Appends mid gets waits
    → Appends got gets (timed_text clock timed (skips_in file) (packets_read file))
all_printed clock timed file got mid gets waits now last e g then =
    let whole : g.more ≡ lines_in_turn clock timed 0 (stretches_in file) = sym (append-nil g.more) ∙ g.lines [] ∙ ap (lines_in_turn clock timed 0) (sym (between_end file now last g.earlier e g.between)) in
    subst (Appends got gets) (g.carried.kept ∙ whole ∙ whole_text clock timed file) (appends_both got mid gets g.carried.sent waits g.carried.taken then)

-- by a clock that tells no time, where none is asked for, it is the dump
pub plain_skipping : (clock : List Mark) (timed : Bool) (file : List ℕ) (got gets : Option (List ℕ)) → clock ≡ [] → timed ≡ false → Appends got gets (timed_text clock timed (skips_in file) (packets_read file)) → Appends got gets (file_text true file)
plain_skipping clock timed file got gets none asked is =
    subst (Appends got gets)
    (ap (λ (c : List Mark). timed_text c timed (skips_in file) (packets_read file)) none ∙ ap (λ (b : Bool). timed_text [] b (skips_in file) (packets_read file)) asked ∙ plain_text true file) is
