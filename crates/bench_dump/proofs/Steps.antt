-- Lines of a dump, one after the other.
use Rattle.std.proofs.Common.{◌≡◌, ℕ, ◌+◌, ◌<◌, List, [], ◌∷◌, ◌++◌, length, Option, None, Some, refl, sym, ap, ◌∙◌, append_assoc, arith}
use Rattle.std.proofs.lemmas.List.{append-nil}
use Rattle.std.specs.Io.KnownBytes.{Appends}
use Rattle.ch11_f1.specs.BodyReading.{Message}
use Rattle.bench_clock.specs.declared.clock.Mark.{Mark}
use Rattle.ch11_layout.specs.Stamps.{ticks_of}
use Rattle.ch11_layout.specs.declared.stamps.StampKind.{StampKind}
use Rattle.bench_clock.specs.Clock.{time_of_stamp}
use Rattle.bench_dump.specs.DumpText.{bus_words}
use Rattle.bench_dump.specs.TimedText.{timed_line, timed_lines}
use Rattle.bench_dump.specs.Printing.{Carries}

pub bus_words_end : (rest : List ℕ) → length rest < 2 → bus_words rest ≡ []
bus_words_end [] short = refl
bus_words_end (low ∷ []) short = refl
bus_words_end (low ∷ high ∷ rest) short = absurd (omega arith)

-- a writer that got some bytes and then others got both
pub appends_both : (old mid new : Option (List ℕ)) (first second : List ℕ) → Appends old mid first → Appends mid new second → Appends old new (first ++ second)
appends_both None mid new first second a b = tt
appends_both (Some xs) None new first second a b = absurd a
appends_both (Some xs) (Some ys) None first second a b = absurd b
appends_both (Some xs) (Some ys) (Some zs) first second a b = b ∙ ap (λ (l : List ℕ). l ++ second) a ∙ append_assoc xs first second

pub appends_nothing : (old : Option (List ℕ)) → Appends old old []
appends_nothing None = tt
appends_nothing (Some xs) = sym (append-nil xs)

-- some more text was put, and then it was carried on
pub carries_on : (got mid gets : Option (List ℕ)) (waiting waits put then more line : List ℕ) → Carries got waiting mid waits more → put ≡ waits ++ line → Carries mid put gets then [] → Carries got waiting gets then (more ++ line)
carries_on got mid gets waiting waits put then more line a is b = record {
  sent = a.sent ++ b.sent;
  taken = appends_both got mid gets a.sent b.sent a.taken b.taken;
  kept = append_assoc a.sent b.sent then ∙ ap (λ (l : List ℕ). a.sent ++ l) (b.kept ∙ append-nil put ∙ is) ∙ sym (append_assoc a.sent waits line) ∙ ap (λ (l : List ℕ). l ++ line) a.kept ∙ append_assoc waiting more line;
}

-- nothing was put yet
pub carries_nothing : (got : Option (List ℕ)) (waiting : List ℕ) → Carries got waiting got waiting []
carries_nothing got waiting = record { sent = []; taken = appends_nothing got; kept = sym (append-nil waiting) }

-- the lines of the messages so far were put
pub record IsGoing (got : Option (List ℕ)) (waiting : List ℕ) (gets : Option (List ℕ)) (waits : List ℕ) (clock : List Mark) (kind : StampKind) (before number channel : ℕ) (all rest : List Message) : Type 0 where
  pub more : List ℕ
  pub carried : Carries got waiting gets waits more
  pub counted : number + length rest ≡ before + length all
  pub lines : more ++ timed_lines clock kind number channel rest ≡ timed_lines clock kind before channel all

pub begins : (got : Option (List ℕ)) (waiting : List ℕ) (clock : List Mark) (kind : StampKind) (before channel : ℕ) (all : List Message) → IsGoing got waiting got waiting clock kind before before channel all all
begins got waiting clock kind before channel all = record { more = []; carried = carries_nothing got waiting; counted = refl; lines = refl }

pub goes_on : (got mid gets : Option (List ℕ)) (waiting waits put then : List ℕ) (clock : List Mark) (kind : StampKind) (before number channel : ℕ) (all rest others : List Message) (m : Message) → IsGoing got waiting mid waits clock kind before number channel all rest → rest ≡ m ∷ others
    → put ≡ waits ++ timed_line (time_of_stamp clock kind (ticks_of kind m.stamp)) (number + 1) channel m → Carries mid put gets then [] → IsGoing got waiting gets then clock kind before (number + 1) channel all others
goes_on got mid gets waiting waits put then clock kind before number channel all rest others m g is line on = record {
  more = g.more ++ timed_line (time_of_stamp clock kind (ticks_of kind m.stamp)) (number + 1) channel m;
  carried = carries_on got mid gets waiting waits put then g.more (timed_line (time_of_stamp clock kind (ticks_of kind m.stamp)) (number + 1) channel m) g.carried line on;
  counted = omega (arith, g.counted, ap length is);
  lines = append_assoc g.more (timed_line (time_of_stamp clock kind (ticks_of kind m.stamp)) (number + 1) channel m) (timed_lines clock kind (number + 1) channel others) ∙ ap (λ (ms : List Message). g.more ++ timed_lines clock kind number channel ms) (sym is) ∙ g.lines;
}

pub ends : (got gets : Option (List ℕ)) (waiting waits : List ℕ) (clock : List Mark) (kind : StampKind) (before number channel : ℕ) (all rest : List Message) → IsGoing got waiting gets waits clock kind before number channel all rest → rest ≡ [] → Carries got waiting gets waits (timed_lines clock kind before channel all)
ends got gets waiting waits clock kind before number channel all rest g is =
    let whole : g.more ≡ timed_lines clock kind before channel all = sym (append-nil g.more) ∙ ap (λ (ms : List Message). g.more ++ timed_lines clock kind number channel ms) (sym is) ∙ g.lines in
    record { sent = g.carried.sent; taken = g.carried.taken; kept = g.carried.kept ∙ ap (λ (l : List ℕ). waiting ++ l) whole }
