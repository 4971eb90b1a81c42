-- The rules that were read of a text, and what the rest of it gives.
use Rattle.std.proofs.Common.{◌≡◌, ℕ, ◌+◌, ◌≤◌, List, [], ◌∷◌, ◌++◌, length, refl, ap, sym, ◌∙◌, subst, inl, inr, arith, append_assoc, append-nil, length-append}
use Rattle.std.specs.Prelude.{Some, None, Ok, Err, slice_get, map, Option, Bool, true, false, if◌then◌else◌, ◌==◌, Result, OnOk, IfErr}
use Rattle.std.proofs.lemmas.List.{map-append}
use Rattle.std.proofs.lemmas.Bool.{eq-eqb, ne_eqb}
use Rattle.text_lines.specs.Lines.{text_lines}
use Rattle.text_lines.specs.Words.{Text}
use Rattle.judge_rules.specs.declared.fault.RuleError.{RuleError}
use Rattle.judge_rules.specs.declared.fault.RuleFault.{RuleFault}
use Rattle.judge_rules.specs.declared.fault.RuleFault.TheVariants.{Word, Range, Memory}
use Rattle.judge_rules.specs.Faults.{Read}
use Rattle.judge_rules.specs.Parts.{Parts, parts_of}
use Rattle.signal_dictionary.specs.declared.signals.Signal.{Signal}
use Rattle.signal_judge.specs.declared.reading.Spelled.{Spelled}
use Rattle.signal_judge.specs.declared.reading.Spelled.TheVariants.{Plain, OfSignal}
use Rattle.signal_judge.specs.declared.rules.AllRules.{AllRules}
use Rattle.signal_judge.specs.Rules.{AnyRule, about_messages, about_signal, SignalParts, AreRules, Found, IsFaultOf, fault_at, in_front, line_of, plain_of, rules_from, rules_in, said, signal_parts, signals_of, taken}
use Rattle.signal_judge.specs.Taking.{IsReading, IsRefused, IsTaken, any_of, many, prefixed}

prefixed_one : (rules : List AnyRule) (rule : AnyRule) (rest : Found) → prefixed rules (in_front rule rest) ≡ prefixed (rules ++ rule ∷ []) rest
prefixed_one rules rule (Ok more) = ap (λ (xs : List AnyRule). let f : Found = Ok xs in f) (sym (append_assoc rules (rule ∷ []) more))
prefixed_one rules rule (Err e) = refl

-- nothing in front of what is left
prefixed_none : (rest : Found) → rest ≡ prefixed [] rest
prefixed_none (Ok more) = refl
prefixed_none (Err e) = refl

pub reading-none : (all : List Signal) (text : Text) (rules : AllRules) → rules.plain.items ≡ [] → rules.signals.items ≡ [] → IsReading all text rules 1 text
reading-none all text rules p s = record {
  found = [];
  counted = rw (p, s) refl;
  messages_are = ap (map parts_of) p;
  signals_are = ap (map signal_parts) s;
  read = prefixed_none (rules_from all 0 1 (text_lines text));
}

-- the first line that is left says nothing, has a fault, or is a rule
pub from-none : (all : List Signal) (before line : ℕ) (first : Text) (rest : List Text) → said all line first ≡ None → rules_from all before line (first ∷ rest) ≡ rules_from all before (line + 1) rest
from-none all before line first rest is = rw is refl

pub from-fault : (all : List Signal) (before line : ℕ) (first : Text) (rest : List Text) (f : RuleFault) → said all line first ≡ Some (Err f) → rules_from all before line (first ∷ rest) ≡ Err (record { fault = f; line = line })
from-fault all before line first rest f is = rw is refl

pub from-many : (all : List Signal) (before line : ℕ) (first : Text) (rest : List Text) (rule : AnyRule) → said all line first ≡ Some (Ok rule) → before ≡ 10000 → rules_from all before line (first ∷ rest) ≡ Err (record { fault = Range; line = line })
from-many all before line first rest rule is full = rw (is, eq-eqb before 10000 full) refl

pub from-rule : (all : List Signal) (before line : ℕ) (first : Text) (rest : List Text) (rule : AnyRule) → said all line first ≡ Some (Ok rule) → (before ≡ 10000 → ⊥) → rules_from all before line (first ∷ rest) ≡ in_front rule (rules_from all (before + 1) (line + 1) rest)
from-rule all before line first rest rule is few = rw (is, ne_eqb before 10000 few) refl

pub reading-pass : (all : List Signal) (text : Text) (rules : AllRules) (line : ℕ) (rest first behind : Text) → IsReading all text rules line rest → text_lines rest ≡ first ∷ text_lines behind → said all line first ≡ None → IsReading all text rules (line + 1) behind
reading-pass all text rules line rest first behind r lines says = record {
  found = r.found;
  counted = r.counted;
  messages_are = r.messages_are;
  signals_are = r.signals_are;
  read = r.read ∙ ap (prefixed r.found) (ap (rules_from all (length r.found) line) lines ∙ from-none all (length r.found) line first (text_lines behind) says);
}

-- a rule more
one_plain : (found : List AnyRule) (rule : AnyRule) → plain_of (found ++ rule ∷ []) ≡ plain_of found ++ plain_of (rule ∷ [])
one_plain [] rule = refl
one_plain (about_messages p ∷ found) rule = ap (λ (xs : List Parts). p ∷ xs) (one_plain found rule)
one_plain (about_signal s ∷ found) rule = one_plain found rule

one_signal : (found : List AnyRule) (rule : AnyRule) → signals_of (found ++ rule ∷ []) ≡ signals_of found ++ signals_of (rule ∷ [])
one_signal [] rule = refl
one_signal (about_messages p ∷ found) rule = one_signal found rule
one_signal (about_signal s ∷ found) rule = ap (λ (xs : List SignalParts). s ∷ xs) (one_signal found rule)

taken_plain : (before after : AllRules) (rule : Spelled) (found : List AnyRule) → IsTaken before rule after → map parts_of before.plain.items ≡ plain_of found → map parts_of after.plain.items ≡ plain_of (found ++ any_of rule ∷ [])
taken_plain before after (Plain rule) found taken is =
    ap (map parts_of) taken.0 ∙ map-append parts_of before.plain.items (rule ∷ []) ∙ ap (λ (xs : List Parts). xs ++ parts_of rule ∷ []) is ∙ sym (one_plain found (about_messages (parts_of rule)))
taken_plain before after (OfSignal rule) found taken is =
    ap (map parts_of) taken.0 ∙ is ∙ sym (append-nil (plain_of found)) ∙ sym (one_plain found (about_signal (signal_parts rule)))

taken_signals : (before after : AllRules) (rule : Spelled) (found : List AnyRule) → IsTaken before rule after → map signal_parts before.signals.items ≡ signals_of found → map signal_parts after.signals.items ≡ signals_of (found ++ any_of rule ∷ [])
taken_signals before after (Plain rule) found taken is =
    ap (map signal_parts) taken.1 ∙ is ∙ sym (append-nil (signals_of found)) ∙ sym (one_signal found (about_messages (parts_of rule)))
taken_signals before after (OfSignal rule) found taken is =
    ap (map signal_parts) taken.1 ∙ map-append signal_parts before.signals.items (rule ∷ []) ∙ ap (λ (xs : List SignalParts). xs ++ signal_parts rule ∷ []) is ∙ sym (one_signal found (about_signal (signal_parts rule)))

taken_many : (before after : AllRules) (rule : Spelled) → IsTaken before rule after → many after ≡ many before + 1
taken_many before after (Plain rule) taken = omega (arith, ap length taken.0, ap length taken.1, length-append before.plain.items (rule ∷ []))
taken_many before after (OfSignal rule) taken = omega (arith, ap length taken.0, ap length taken.1, length-append before.signals.items (rule ∷ []))

pub few_more : (before after : AllRules) (rule : Spelled) → IsTaken before rule after → many before + 1 ≤ 10000 → many after ≤ 10000
few_more before after rule taken few = omega (arith, taken_many before after rule taken, few)

pub reading-rule : (all : List Signal) (text : Text) (rules after : AllRules) (line : ℕ) (rest first behind : Text) (rule : Spelled) → IsReading all text rules line rest → text_lines rest ≡ first ∷ text_lines behind
    → said all line first ≡ Some (Ok (any_of rule)) → many rules + 1 ≤ 10000 → IsTaken rules rule after → IsReading all text after (line + 1) behind
reading-rule all text rules after line rest first behind rule r lines says few taken =
    let long : length (r.found ++ any_of rule ∷ []) ≡ length r.found + 1 = length-append r.found (any_of rule ∷ []) in
    let fewer : length r.found ≡ 10000 → ⊥ = λ (e : length r.found ≡ 10000). absurd (omega (arith, e, r.counted, few)) in
    record {
      found = r.found ++ any_of rule ∷ [];
      counted = omega (arith, long, r.counted, taken_many rules after rule taken);
      messages_are = taken_plain rules after rule r.found taken r.messages_are;
      signals_are = taken_signals rules after rule r.found taken r.signals_are;
      read =
          r.read
          ∙ ap (prefixed r.found) (ap (rules_from all (length r.found) line) lines ∙ from-rule all (length r.found) line first (text_lines behind) (any_of rule) says fewer)
          ∙ prefixed_one r.found (any_of rule) (rules_from all (length r.found + 1) (line + 1) (text_lines behind))
          ∙ ap (λ (n : ℕ). prefixed (r.found ++ any_of rule ∷ []) (rules_from all n (line + 1) (text_lines behind))) (sym long);
    }

-- a fault, by which the whole is refused
pub reading-fault : (all : List Signal) (text : Text) (rules : AllRules) (line : ℕ) (rest first behind : Text) (f : RuleFault) → IsReading all text rules line rest → text_lines rest ≡ first ∷ text_lines behind
    → said all line first ≡ Some (Err f) → rules_in all text ≡ Err (record { fault = f; line = line })
unfolding rules_in
reading-fault all text rules line rest first behind f r lines says =
    r.read ∙ ap (prefixed r.found) (ap (rules_from all (length r.found) line) lines ∙ from-fault all (length r.found) line first (text_lines behind) f says)

pub reading-many : (all : List Signal) (text : Text) (rules : AllRules) (line : ℕ) (rest first behind : Text) (rule : AnyRule) → IsReading all text rules line rest → text_lines rest ≡ first ∷ text_lines behind
    → said all line first ≡ Some (Ok rule) → many rules ≡ 10000 → rules_in all text ≡ Err (record { fault = Range; line = line })
unfolding rules_in
reading-many all text rules line rest first behind rule r lines says full =
    r.read ∙ ap (prefixed r.found) (ap (rules_from all (length r.found) line) lines ∙ from-many all (length r.found) line first (text_lines behind) rule says (r.counted ∙ full))

-- a fault stands in the first line that is left, or behind it
in_front_fault : (rule : AnyRule) (rest : Found) (e : RuleError) → in_front rule rest ≡ Err e → rest ≡ Err e
in_front_fault rule (Ok rules) e is = absurd cc
in_front_fault rule (Err f) e is = is

err_same : (f e : RuleError) → (let x : Found = Err f in x) ≡ Err e → f ≡ e
err_same f e is = cc

err_line : (f : RuleFault) (line : ℕ) (e : RuleError) → (let x : Found = Err (record { fault = f; line = line }) in x) ≡ Err e → line ≡ e.line
err_line f line e is = ap (λ (x : RuleError). x.line) (err_same (record { fault = f; line = line }) e is)

pub fault_behind : (all : List Signal) (before line : ℕ) (rest : List Text) (e : RuleError) → rules_from all before line rest ≡ Err e → line ≤ e.line
fault_behind all before line [] e is = go (before == 0) is
  where
    go : (b : Bool) → (if b then fault_at line Word else Ok []) ≡ Err e → line ≤ e.line
    go true is = omega (arith, err_line Word line e is)
    go false is = absurd cc
fault_behind all before line (text ∷ rest) e is = go (said all line text) is (fault_behind all before (line + 1) rest e) (fault_behind all (before + 1) (line + 1) rest e)
  where
    placed : (b : Bool) (rule : AnyRule) → (if b then fault_at line Range else in_front rule (rules_from all (before + 1) (line + 1) rest)) ≡ Err e → (rules_from all (before + 1) (line + 1) rest ≡ Err e → line + 1 ≤ e.line) → line ≤ e.line
    placed true rule is more = omega (arith, err_line Range line e is)
    placed false rule is more = let later : line + 1 ≤ e.line = more (in_front_fault rule (rules_from all (before + 1) (line + 1) rest) e is) in omega (arith, later)

    go : (read : Option (Read AnyRule)) → taken before line read (rules_from all before (line + 1) rest) (rules_from all (before + 1) (line + 1) rest) ≡ Err e → (rules_from all before (line + 1) rest ≡ Err e → line + 1 ≤ e.line)
        → (rules_from all (before + 1) (line + 1) rest ≡ Err e → line + 1 ≤ e.line) → line ≤ e.line
    go None is same more = let later : line + 1 ≤ e.line = same is in omega (arith, later)
    go (Some (Err f)) is same more = omega (arith, err_line f line e is)
    go (Some (Ok rule)) is same more = placed (before == 10000) rule is more

-- want of memory at the line of a rule
at_end : (rules : List AnyRule) (rule : AnyRule) (more : List AnyRule) → slice_get (rules ++ rule ∷ more) (length rules) ≡ Some rule
at_end [] rule more = refl
at_end (r ∷ rs) rule more = at_end rs rule more

memory_at : (line : ℕ) (e : RuleError) (found : List AnyRule) (rule : AnyRule) (rest : Found) → e ≡ record { fault = Memory; line = line } → line_of rule ≡ line → ((f : RuleError) → rest ≡ Err f → line + 1 ≤ f.line) → IsFaultOf e (prefixed found (in_front rule rest))
memory_at line e found rule (Ok more) is here later = (ap (λ (x : RuleError). x.fault) is, (length found, (rule, (at_end found rule more, here ∙ sym (ap (λ (x : RuleError). x.line) is)))))
memory_at line e found rule (Err f) is here later = inr (ap (λ (x : RuleError). x.fault) is, (let above : line + 1 ≤ f.line = later f refl in omega (arith, above, ap (λ (x : RuleError). x.line) is)))

pub reading-memory : (all : List Signal) (text : Text) (rules : AllRules) (line : ℕ) (rest first behind : Text) (rule : AnyRule) (e : RuleError) → IsReading all text rules line rest → text_lines rest ≡ first ∷ text_lines behind
    → said all line first ≡ Some (Ok rule) → line_of rule ≡ line → many rules + 1 ≤ 10000 → e ≡ record { fault = Memory; line = line } → IsFaultOf e (rules_in all text)
unfolding rules_in
reading-memory all text rules line rest first behind rule e r lines says here few is =
    let fewer : length r.found ≡ 10000 → ⊥ = λ (n : length r.found ≡ 10000). absurd (omega (arith, n, r.counted, few)) in
    let whole : rules_from all 0 1 (text_lines text) ≡ prefixed r.found (in_front rule (rules_from all (length r.found + 1) (line + 1) (text_lines behind))) =
    r.read ∙ ap (prefixed r.found) (ap (rules_from all (length r.found) line) lines ∙ from-rule all (length r.found) line first (text_lines behind) rule says fewer) in
    subst (IsFaultOf e) (sym whole) (memory_at line e r.found rule (rules_from all (length r.found + 1) (line + 1) (text_lines behind)) is here (λ f bad. fault_behind all (length r.found + 1) (line + 1) (text_lines behind) f bad))

-- a rule that was not taken
pub reading-refused : (all : List Signal) (text : Text) (rules : AllRules) (line : ℕ) (rest first behind : Text) (rule : AnyRule) (e : RuleError) → IsReading all text rules line rest → text_lines rest ≡ first ∷ text_lines behind
    → said all line first ≡ Some (Ok rule) → line_of rule ≡ line → many rules ≤ 10000 → IsRefused e line rules → IsFaultOf e (rules_in all text)
reading-refused all text rules line rest first behind rule e r lines says here few (inl full) =
    subst (IsFaultOf e) (sym (reading-many all text rules line rest first behind rule r lines says (omega (arith, few, full.1)))) (inl full.0)
reading-refused all text rules line rest first behind rule e r lines says here few (inr want) = reading-memory all text rules line rest first behind rule e r lines says here want.1 want.0

-- no line is left
pub reading-empty : (all : List Signal) (text : Text) (rules : AllRules) (line : ℕ) (rest : Text) → IsReading all text rules line rest → text_lines rest ≡ [] → many rules ≡ 0 → rules_in all text ≡ Err (record { fault = Word; line = line })
unfolding rules_in
reading-empty all text rules line rest r lines none =
    let last : rules_from all (length r.found) line [] ≡ Err (record { fault = Word; line = line }) = rw (eq-eqb (length r.found) 0 (r.counted ∙ none)) refl in
    r.read ∙ ap (prefixed r.found) (ap (rules_from all (length r.found) line) lines ∙ last)

pub reading-all : (all : List Signal) (text : Text) (rules : AllRules) (line : ℕ) (rest : Text) → IsReading all text rules line rest → text_lines rest ≡ [] → (many rules ≡ 0 → ⊥) → AreRules rules (rules_in all text)
unfolding rules_in
reading-all all text rules line rest r lines some =
    let has : length r.found ≡ 0 → ⊥ = λ (e : length r.found ≡ 0). some (sym r.counted ∙ e) in
    let last : rules_from all (length r.found) line [] ≡ Ok [] = rw (ne_eqb (length r.found) 0 has) refl in
    let whole : rules_from all 0 1 (text_lines text) ≡ Ok r.found =
    r.read ∙ ap (prefixed r.found) (ap (rules_from all (length r.found) line) lines ∙ last) ∙ ap (λ (xs : List AnyRule). let f : Found = Ok xs in f) (append-nil r.found) in
    subst (AreRules rules) (sym whole) (r.messages_are, r.signals_are)

-- what holds of a result where it is Ok, and where it is not
pub on_taken : {X E : Type 0} (P Q : Type 0) (res : Result X E) → (P → Q) → OnOk res P → OnOk res Q
on_taken P Q (Ok x) f p = f p
on_taken P Q (Err e) f p = tt

pub if_refused : {X E : Type 0} (P Q : E → Type 0) (res : Result X E) → ((e : E) → P e → Q e) → IfErr res P → IfErr res Q
if_refused P Q (Ok x) f p = tt
if_refused P Q (Err e) f p = f e p
