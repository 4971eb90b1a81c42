-- Packets of a dump as they come from a reader.
use Rattle.std.proofs.Common.{◌≡◌, Bool, ℕ, ◌+◌, List, [], ◌∷◌, ◌++◌, length, Option, Result, Ok, Err, refl, sym, ap, subst, ◌∙◌, append_assoc, false, arith}
use Rattle.std.proofs.lemmas.List.{append-nil}
use Rattle.std.specs.Io.KnownBytes.{Appends}
use Rattle.ch11_reader.specs.declared.packet.Packet.{Packet}
use Rattle.ch11_reader.specs.Recording.{Found, found_or_none, packets_in}
use Rattle.ch11_reader.specs.Contents.{total_in}
use Rattle.ch11_reader.specs.Indexed.{found_in}
use Rattle.ch11_reader.proofs.Loop.{in_order}
use Rattle.ch11_stream.specs.declared.fault.StreamFault.{StreamFault}
use Rattle.ch11_stream.specs.declared.fault.StreamFault.TheVariants.{Device, Memory, Refused}
use Rattle.ch11_stream.specs.Reading.{IsEnd, IsStep, IsReadingStopped, Reading, last_found}
use Rattle.ch11_stream.proofs.Readings.{IsAmid, amid_end, amid_stop}
use Rattle.bench_clock.specs.declared.clock.Mark.{Mark}
use Rattle.bench_dump.specs.DumpText.{packet_line}
use Rattle.bench_dump.specs.Printing.{Carries}
use Rattle.bench_dump.specs.Streaming.{Dumps, DumpsBy}
use Rattle.bench_dump.specs.TimedText.{kind_asked, timed_in_order, timed_lines, timed_text}
use Rattle.bench_dump.proofs.Packets.{carries_both}
use Rattle.bench_dump.proofs.Steps.{appends_both, carries_nothing}
use Rattle.bench_dump.proofs.Timeless.{plain_text}

-- the lines of the packets so far, newest first, were put
pub record IsPut (clock : List Mark) (timed : Bool) (got gets : Option (List ℕ)) (waits : List ℕ) (earlier : List Found) : Type 0 where
  pub more : List ℕ
  pub carried : Carries got [] gets waits more
  pub lines : (ps : List Found) → more ++ timed_in_order clock timed (total_in earlier) [] ps ≡ timed_text clock timed [] (in_order earlier ps)

pub nothing_put : (clock : List Mark) (timed : Bool) (got : Option (List ℕ)) (waits : List ℕ) (earlier : List Found) → waits ≡ [] → earlier ≡ [] → IsPut clock timed got got waits earlier
nothing_put clock timed got waits earlier none first = rw (none, first) record { more = []; carried = carries_nothing got []; lines = λ ps. refl }

regroup : (more packet messages rest : List ℕ) → (more ++ (packet ++ messages)) ++ rest ≡ more ++ (packet ++ (messages ++ rest))
regroup more packet messages rest = simp append_assoc

-- the line of the packet that was read, and those of its messages
abbrev pub lines_of : List Mark → Bool → Reading → Packet → List ℕ
lines_of clock timed now p = packet_line p.offset p.header p.count ++ timed_lines clock (kind_asked timed p.header) p.before p.header.channel now.given

pub one_put : (clock : List Mark) (timed : Bool) (got mid gets : Option (List ℕ)) (waits then : List ℕ) (before now : Reading) (p : Packet) → IsStep before now p → IsPut clock timed got mid waits before.earlier
    → Carries mid waits gets then (lines_of clock timed now p) → IsPut clock timed got gets then now.earlier
one_put clock timed got mid gets waits then before now p s g on = rw (s.entered) record {
  more = g.more ++ lines_of clock timed now p;
  carried = carries_both got mid gets [] waits then g.more (lines_of clock timed now p) g.carried on;
  lines = λ ps.
      let q : Found = last_found now p in
      let total : length now.given + total_in before.earlier ≡ total_in before.earlier + length now.given = omega arith in
      let front : p.before ≡ total_in before.earlier = ap (λ (x : Packet). x.before) s.listed in
      let count : p.count ≡ length now.given = ap (λ (x : Packet). x.count) s.listed in
      regroup g.more (packet_line p.offset p.header p.count) (timed_lines clock (kind_asked timed p.header) p.before p.header.channel now.given) (timed_in_order clock timed (total_in (q ∷ before.earlier)) [] ps)
      ∙ ap (λ (l : List ℕ). g.more ++ l) (rw (total, front, count) refl) ∙ g.lines (q ∷ ps);
}

pub all_put : (clock : List Mark) (timed : Bool) (file : List ℕ) (got mid gets : Option (List ℕ)) (waits : List ℕ) (now last : Reading) → IsEnd now last → IsAmid file now → IsPut clock timed got mid waits now.earlier → Appends mid gets waits
    → (packets_in file ≡ Ok (found_in file)) × Appends got gets (timed_text clock timed [] (found_in file))
all_put clock timed file got mid gets waits now last e a g then =
    let read : packets_in file ≡ Ok (in_order now.earlier []) = amid_end file now last e a in
    let whole : g.more ≡ timed_text clock timed [] (in_order now.earlier []) = sym (append-nil g.more) ∙ g.lines [] in
    let found : in_order now.earlier [] ≡ found_in file = sym (ap found_or_none read) in
    let text : timed_text clock timed [] (in_order now.earlier []) ≡ timed_text clock timed [] (found_in file) = ap (λ (ps : List Found). timed_text clock timed [] ps) found in (
      read ∙ ap Ok found,
      subst (Appends got gets) (g.carried.kept ∙ whole ∙ text) (appends_both got mid gets g.carried.sent waits g.carried.taken then),
    )

-- no packet could be read
pub not_read : (clock : List Mark) (timed : Bool) (file : List ℕ) (got gets : Option (List ℕ)) (now last : Reading) (f : StreamFault) → IsReadingStopped now last f → IsAmid file now → DumpsBy {A = Unit {0}} clock timed (Err f) file got gets
not_read clock timed file got gets now last (Refused r) s a = amid_stop file now last r s a
not_read clock timed file got gets now last Memory s a = tt
not_read clock timed file got gets now last Device s a = tt

-- by a clock that tells no time, where none is asked for, it is the dump
pub plain_dumps : (clock : List Mark) (timed : Bool) (result : Result (Unit {0}) StreamFault) (file : List ℕ) (got gets : Option (List ℕ)) → clock ≡ [] → timed ≡ false → DumpsBy clock timed result file got gets → Dumps result file got gets
plain_dumps clock timed (Ok x) file got gets none asked d = (
  d.0,
  subst (Appends got gets) (ap (λ (c : List Mark). timed_text c timed [] (found_in file)) none ∙ ap (λ (b : Bool). timed_text [] b [] (found_in file)) asked ∙ plain_text false file) d.1,
)
plain_dumps clock timed (Err (Refused r)) file got gets none asked d = d
plain_dumps clock timed (Err Memory) file got gets none asked d = tt
plain_dumps clock timed (Err Device) file got gets none asked d = tt
