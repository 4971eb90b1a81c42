-- Lines of verdicts on a recording that is read anew for each pass.
use Rattle.std.proofs.Common.{◌≡◌, ℕ, List, [], refl, subst, reverse, take}
use Rattle.std.specs.Prelude.{Bool, true, false, Option, Result, Ok, Err}
use Rattle.std.specs.Io.KnownBytes.{Appends}
use Rattle.std.specs.List.{flat_map}
use Rattle.std.proofs.lemmas.List.{nil_from_length}
use Rattle.ch11_reader.specs.declared.skip.Skip.{Skip}
use Rattle.ch11_reader.specs.Indexed.{found_in}
use Rattle.ch11_reader.specs.Recording.{Found}
use Rattle.ch11_stream.specs.Folding.{FoldsPackets}
use Rattle.ch11_stream.specs.declared.fault.StreamFault.{StreamFault}
use Rattle.judge_rules.specs.declared.rules.Rule.{Rule}
use Rattle.bench_judge.specs.declared.pass_fault.PassFault.{PassFault}
use Rattle.bench_judge.specs.declared.pass_fault.PassFault.TheVariants.{Opening, Printing, Recording}
use Rattle.bench_judge.specs.Checks.{is_whole}
use Rattle.bench_judge.specs.Junit.{told_first}
use Rattle.bench_judge.specs.Lines.{missed_lines, packet_line}
use Rattle.bench_judge.specs.Packets.{packets_missed}
use Rattle.bench_judge.specs.Selection.{Origins}
use Rattle.bench_judge.specs.Streaming.{WritesLinesOf, passed_of}
use Rattle.bench_judge.specs.Tallies.{miss_lines}
use Rattle.bench_judge.specs.Told.{told_moment, told_packet}
use Rattle.bench_judge.specs.Verdicts.{Passed, missed, missed_count}

-- a fault in front of some lines is one in front of others
pub same_fault : (lines others : Passed → List ℕ) (origins : Origins) (e : PassFault) (file : List ℕ) (got mid gets then : Option (List ℕ)) → WritesLinesOf {A = Unit {0}} lines origins (Err e) file got mid
    → WritesLinesOf {A = Unit {0}} others origins (Err e) file gets then
same_fault lines others origins (Opening e) file got mid gets then is = tt
same_fault lines others origins (Recording e) file got mid gets then is = is
same_fault lines others origins (Printing e) file got mid gets then is = tt

-- the same lines by another definition
pub same_lines : {A : Type 0} (lines others : Passed → List ℕ) (origins : Origins) (result : Result A PassFault) (file : List ℕ) (got gets : Option (List ℕ)) → lines (passed_of origins file) ≡ others (passed_of origins file) → WritesLinesOf lines origins result file got gets
    → WritesLinesOf others origins result file got gets
same_lines lines others origins (Ok x) file got gets same is = (is.0, subst (Appends got gets) same is.1)
same_lines lines others origins (Err (Opening e)) file got gets same is = tt
same_lines lines others origins (Err (Recording e)) file got gets same is = is
same_lines lines others origins (Err (Printing e)) file got gets same is = tt

pub same_folds : {A : Type 0} (P Q : List Found → A → Type 0) (result : Result A StreamFault) (file : List ℕ) → ((ps : List Found) (x : A) → P ps x → Q ps x) → FoldsPackets P result file → FoldsPackets Q result file
same_folds P Q (Ok x) file on is = (is.0, on (found_in file) x is.1)
same_folds P Q (Err e) file on is = is

-- the lines of what misses a rule, where it is about packets, and where it is not
pub lines_whole : (skips : List Skip) (rule : Rule) (p : Passed) → is_whole rule.check ≡ true → flat_map (packet_line skips rule.line) (packets_missed rule p.packets) ≡ missed_lines skips rule p
lines_whole skips rule p is = rw is refl

pub lines_other : (skips : List Skip) (rule : Rule) (p : Passed) → is_whole rule.check ≡ false → miss_lines rule p.origins p.messages ≡ missed_lines skips rule p
lines_other skips rule p is = rw is refl

-- no lines where none misses it
pub lines_none : (skips : List Skip) (rule : Rule) (p : Passed) → missed_count rule p ≡ 0 → missed_lines skips rule p ≡ []
lines_none skips rule p none = go (is_whole rule.check) refl
  where
    go : (b : Bool) → is_whole rule.check ≡ b → missed_lines skips rule p ≡ []
    go true is =
        let empty : packets_missed rule p.packets ≡ [] = nil_from_length (packets_missed rule p.packets) (rw is at none) in
        rw (is, empty) refl
    go false is =
        let empty : missed rule p.origins p.messages ≡ [] = nil_from_length (missed rule p.origins p.messages) (rw is at none) in
        rw (is, empty) refl

-- what is told of the first, in both cases
pub told_whole : (skips : List Skip) (most : ℕ) (rule : Rule) (p : Passed) → is_whole rule.check ≡ true → flat_map (told_packet skips) (take most (packets_missed rule p.packets)) ≡ told_first skips most rule p
told_whole skips most rule p is = rw is refl

pub told_other : (skips : List Skip) (most : ℕ) (rule : Rule) (p : Passed) → is_whole rule.check ≡ false → flat_map (told_moment rule p.origins) (take most (reverse (missed rule p.origins p.messages))) ≡ told_first skips most rule p
told_other skips most rule p is = rw is refl
