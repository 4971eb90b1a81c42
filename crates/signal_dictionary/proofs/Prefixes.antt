-- Signals that were read, and what the rest of the text gives.
use Rattle.std.proofs.Common.{◌≡◌, ℕ, ◌+◌, ◌≤◌, Bool, true, false, List, [], ◌∷◌, ◌++◌, length, refl, ap, sym, append_assoc, inr, arith}
use Rattle.std.specs.Prelude.{Option, Some, None, Ok, Err, slice_get, IfErr, if◌then◌else◌}
use Rattle.text_lines.specs.Words.{Text}
use Rattle.judge_rules.specs.declared.fault.RuleFault.{RuleFault}
use Rattle.judge_rules.specs.declared.fault.RuleFault.TheVariants.{Range, Memory}
use Rattle.judge_rules.specs.Faults.{Read}
use Rattle.signal_dictionary.specs.declared.fault.DictionaryError.{DictionaryError}
use Rattle.signal_dictionary.specs.Dictionary.{AllSignals, dictionary_from, fault_at, has_no_place, in_front, IsDictionaryError, taken}
use Rattle.signal_dictionary.specs.Lines.{said}
use Rattle.signal_dictionary.specs.Parts.{Parts}

-- signals in front of those that the rest gives
abbrev pub prefixed : List Parts → AllSignals → AllSignals
prefixed signals (Ok more) = Ok (signals ++ more)
prefixed signals (Err e) = Err e

pub prefixed-more : (signals : List Parts) (signal : Parts) (rest : AllSignals) → prefixed signals (in_front signal rest) ≡ prefixed (signals ++ signal ∷ []) rest
prefixed-more signals signal (Ok more) = ap (λ (s : List Parts). let all : AllSignals = Ok s in all) (sym (append_assoc signals (signal ∷ []) more))
prefixed-more signals signal (Err e) = refl

-- the first line that is left has a fault, has one signal too many or one that is there, says nothing, or is a signal
pub from-fault : (before : List Parts) (line : ℕ) (first : Text) (rest : List Text) (f : RuleFault) → said line first ≡ Some (Err f) → dictionary_from before line (first ∷ rest) ≡ Err (record { fault = f; line = line })
from-fault before line first rest f is = rw is refl

pub from-range : (before : List Parts) (line : ℕ) (first : Text) (rest : List Text) (signal : Parts) → said line first ≡ Some (Ok signal) → has_no_place signal.name before ≡ true → dictionary_from before line (first ∷ rest) ≡ Err (record { fault = Range; line = line })
from-range before line first rest signal is many = rw (is, many) refl

pub from-none : (before : List Parts) (line : ℕ) (first : Text) (rest : List Text) → said line first ≡ None → dictionary_from before line (first ∷ rest) ≡ dictionary_from before (line + 1) rest
from-none before line first rest is = rw is refl

pub from-signal : (before : List Parts) (line : ℕ) (first : Text) (rest : List Text) (signal : Parts) → said line first ≡ Some (Ok signal) → has_no_place signal.name before ≡ false → dictionary_from before line (first ∷ rest) ≡ in_front signal (dictionary_from (before ++ signal ∷ []) (line + 1) rest)
from-signal before line first rest signal is few = rw (is, few) refl

-- a fault of lines stands in one of them
abbrev IsFrom : ℕ → AllSignals → Type 0
IsFrom line all = IfErr all (λ (e : DictionaryError). line ≤ e.line)

front-from : (line : ℕ) (signal : Parts) (all : AllSignals) → IsFrom line all → IsFrom line (in_front signal all)
front-from line signal (Ok more) is = tt
front-from line signal (Err e) is = is

either-from : (line : ℕ) (b : Bool) (signal : Parts) (all : AllSignals) → IsFrom line all → IsFrom line (if b then fault_at line Range else in_front signal all)
either-from line true signal all is = omega arith
either-from line false signal all is = front-from line signal all is

taken-from : (before : List Parts) (line : ℕ) (says : Option (Read Parts)) (same : AllSignals) (more : Parts → AllSignals) → IsFrom line same → ((s : Parts) → IsFrom line (more s)) → IsFrom line (taken before line says same more)
taken-from before line None same more one each = one
taken-from before line (Some (Err f)) same more one each = omega arith
taken-from before line (Some (Ok s)) same more one each = either-from line (has_no_place s.name before) s (more s) (each s)

later : (line : ℕ) (all : AllSignals) → IsFrom (line + 1) all → IsFrom line all
later line (Ok more) is = tt
later line (Err e) is = omega (arith, is)

pub fault-from : (before : List Parts) (line : ℕ) (lines : List Text) → IsFrom line (dictionary_from before line lines)
fault-from before line [] = tt
fault-from before line (first ∷ rest) =
    taken-from before line (said line first) (dictionary_from before (line + 1) rest) (λ (s : Parts). dictionary_from (before ++ s ∷ []) (line + 1) rest)
    (later line (dictionary_from before (line + 1) rest) (fault-from before (line + 1) rest))
    (λ s. later line (dictionary_from (before ++ s ∷ []) (line + 1) rest) (fault-from (before ++ s ∷ []) (line + 1) rest))

-- want of memory at a line that has a signal
at-end : (signals : List Parts) (signal : Parts) (more : List Parts) → slice_get (signals ++ signal ∷ more) (length signals) ≡ Some signal
at-end [] signal more = refl
at-end (s ∷ ss) signal more = at-end ss signal more

pub memory-at : (line : ℕ) (signals : List Parts) (signal : Parts) (rest : AllSignals) → signal.line ≡ line → IsFrom (line + 1) rest → IsDictionaryError (record { fault = Memory; line = line }) (prefixed signals (in_front signal rest))
memory-at line signals signal (Ok more) here behind = (refl, (length signals, (signal, (at-end signals signal more, here))))
memory-at line signals signal (Err e) here behind = inr (refl, omega (arith, behind))
