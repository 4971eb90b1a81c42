-- A recording that was checked first.
use Rattle.std.proofs.Common.{◌≡◌, ℕ, Bool, true, List, Option, Result, Ok, Err, subst}
use Rattle.ch11_reader.specs.declared.error.Refusal.{Refusal}
use Rattle.ch11_reader.specs.Indexed.{found_in}
use Rattle.ch11_reader.specs.Recording.{Found, packets_in}
use Rattle.ch11_stream.specs.declared.fault.StreamFault.{StreamFault}
use Rattle.ch11_stream.specs.declared.fault.StreamFault.TheVariants.{Device, Memory, Refused}
use Rattle.ch11_stream.specs.Folding.{IsFaultOf}
use Rattle.bench_clock.specs.declared.clock.Mark.{Mark}
use Rattle.bench_dump.specs.Streaming.{Dumps, DumpsBy}
use Rattle.bench_dump.specs.Passes.{IsRefusedBy}

pub not_both : (file : List ℕ) (ps : List Found) (r : Refusal) → packets_in file ≡ Ok ps → packets_in file ≡ Err r → ⊥
not_both file ps r read refused = absurd cc

-- the fault of the first pass is the recording's first
pub first_fault : (A : Type 0) (file : List ℕ) (r : Refusal) (f : StreamFault) → IsFaultOf file f → packets_in file ≡ Err r → IsRefusedBy {A = A} r (Err f)
first_fault A file r (Refused other) is refused = cc
first_fault A file r Memory is refused = tt
first_fault A file r Device is refused = tt

-- a recording that can be read has no fault of its own in the first pass
pub other_fault : (file second : List ℕ) (got : Option (List ℕ)) (f : StreamFault) → IsFaultOf file f → packets_in file ≡ Ok (found_in file) → Dumps {A = Unit {0}} (Err f) second got got
other_fault file second got (Refused r) is read = absurd (not_both file (found_in file) r read is)
other_fault file second got Memory is read = tt
other_fault file second got Device is read = tt

pub other_timed : (clock : List Mark) (file second : List ℕ) (got : Option (List ℕ)) (f : StreamFault) → IsFaultOf file f → packets_in file ≡ Ok (found_in file)
    → DumpsBy {A = Bool} clock true (Err f) second got got
other_timed clock file second got (Refused r) is read = absurd (not_both file (found_in file) r read is)
other_timed clock file second got Memory is read = tt
other_timed clock file second got Device is read = tt

-- a dump that failed has failed whatever else it would have told
pub failed_alike : (A B : Type 0) (clock : List Mark) (f : StreamFault) (file : List ℕ) (got gets : Option (List ℕ)) → DumpsBy {A = A} clock true (Err f) file got gets → DumpsBy {A = B} clock true (Err f) file got gets
failed_alike A B clock (Refused r) file got gets is = is
failed_alike A B clock Memory file got gets is = tt
failed_alike A B clock Device file got gets is = tt

pub same_clock : (a b : List Mark) (result : Result (Unit {0}) StreamFault) (file : List ℕ) (got gets : Option (List ℕ)) → a ≡ b → DumpsBy a true result file got gets → DumpsBy b true result file got gets
same_clock a b result file got gets same d = subst (λ (clock : List Mark). DumpsBy clock true result file got gets) same d
