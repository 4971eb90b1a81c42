-- What the steps of a job's controller add to the frames that took longer than their period.
use Rattle.std.proofs.Common.{◌≡◌, ℕ, zero, suc, List, [], ◌∷◌, ◌++◌, refl, ap, sym, ◌∙◌, append_assoc}
use Rattle.std.specs.Prelude.{Option, Some, None, slice_get}
use Rattle.frame_code.specs.declared.Op.{Op}
use Rattle.frame_code.specs.declared.Op.TheVariants as op
use Rattle.frame_code.specs.Table.{Code, Registers, halted, act, keeps_pace}
use Rattle.mil_message.specs.World.{World, Point}
use Rattle.bc_machine.specs.Frames.{closed_by}
use Rattle.bc_machine.specs.Running.{MachineState, HasEnded, frames_point, turn_of, world_in, moved_by, stepped_with, stepped}
use Rattle.bench_check.specs.declared.frames.Overrun.{Overrun}
use Rattle.bench_check.specs.FrameLines.{frame_line_at, line_of}
use Rattle.bench_check.specs.Overruns.{clock_at, late_of, overruns_at, overruns_in}

-- the frames of the steps to come are those of the next one and of the steps behind it
pub one_more_step : (items new all : List Overrun) (m n : MachineState) (left rest : ℕ) → n ≡ stepped m → left ≡ suc rest → new ≡ items ++ overruns_at m
    → items ++ overruns_in left m ≡ all → new ++ overruns_in rest n ≡ all
one_more_step items new all m n left rest is one added so_far =
    ap (λ xs. xs ++ overruns_in rest n) added
    ∙ append_assoc items (overruns_at m) (overruns_in rest n)
    ∙ ap (λ z. items ++ (overruns_at m ++ overruns_in rest z)) is
    ∙ ap (λ k. items ++ overruns_in k m) (sym one)
    ∙ so_far

-- an operation that ends the program closes no frame
closes_none : {S O : Type 0} (w : World S O) (o : Option Op) (code : Code) (r : Registers) (p : Point S O) → act w o code r p ≡ halted → closed_by o r.frames ≡ None
closes_none w None code r p e = refl
closes_none w (Some op.Halt) code r p e = refl
closes_none w (Some (op.Send m)) code r p e = refl
closes_none w (Some (op.Alt m)) code r p e = refl
closes_none w (Some (op.SetGap t)) code r p e = refl
closes_none w (Some (op.Loop n)) code r p e = refl
closes_none w (Some (op.Again i)) code r p e = refl
closes_none w (Some (op.Leave i)) code r p e = refl
closes_none w (Some (op.Jump i)) code r p e = refl
closes_none w (Some (op.Test t)) code r p e = refl
closes_none w (Some (op.JumpFalse i)) code r p e = refl
closes_none w (Some (op.Call n)) code r p e = refl
closes_none w (Some op.Return) code r p e = refl
closes_none w (Some op.Begin) code r p e = refl
closes_none w (Some (op.Pace h)) code r p e = by_frames r.frames e
  where
    by_frames : (bs : List ℕ) → keeps_pace w bs h r p ≡ halted → closed_by (Some (op.Pace h)) bs ≡ None
    by_frames [] e = refl
    by_frames (b ∷ bs) e = absurd (cc)

-- where a controller has halted, no frame is closed
none_at : (m : MachineState) → turn_of m ≡ halted → overruns_at m ≡ []
none_at m ends = ap (λ c. late_of c m) (closes_none (world_in m) (slice_get m.code.operations m.at.place) m.code m.at (frames_point m) ends)

-- and no line is told of one
pub line_at_none : (m : MachineState) → turn_of m ≡ halted → frame_line_at m ≡ []
line_at_none m ends = ap (λ c. line_of c (clock_at m)) (closes_none (world_in m) (slice_get m.code.operations m.at.place) m.code m.at (frames_point m) ends)

stands : (m : MachineState) → HasEnded m → stepped m ≡ m
unfolding stepped
stands m ended = ap (λ o. stepped_with o m) ended.none ∙ ap (λ t. moved_by t m) ended.halts

none_in : (k : ℕ) (m : MachineState) → HasEnded m → overruns_in k m ≡ []
none_in zero m ends = refl
none_in (suc k) m ends = ap (λ xs. xs ++ overruns_in k (stepped m)) (none_at m ends.halts) ∙ ap (overruns_in k) (stands m ends) ∙ none_in k m ends

-- so that those so far are all
pub all_there : (items new all : List Overrun) (k : ℕ) (m : MachineState) → HasEnded m → items ++ overruns_in k m ≡ all → new ≡ items ++ overruns_at m → new ≡ all
all_there items new all k m ends so_far is =
    is ∙ ap (λ xs. items ++ xs) (none_at m ends.halts) ∙ ap (λ xs. items ++ xs) (sym (none_in k m ends)) ∙ so_far
