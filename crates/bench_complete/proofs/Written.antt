-- The file of a plan, as it was written.
use Rattle.std.proofs.Common.{◌≡◌, ℕ, zero, suc, ◌≤◌, List, [], ◌∷◌, ◌++◌, take, replicate, Option, None, Some, option_map, Result, Ok, Err, refl, sym, ap, subst, ◌∙◌, arith}
use Rattle.std.specs.Result.{OnOk}
use Rattle.std.specs.Io.KnownBytes.{Appends}
use Rattle.bench_complete.specs.declared.fault.CompleteFault.{CompleteFault}
use Rattle.bench_complete.specs.declared.placed.Placed.{Placed}
use Rattle.bench_complete.specs.declared.times.Times.{Times}
use Rattle.bench_complete.specs.Pieces.{Piece, bytes_of, kept_entries, leading, behind_leading}
use Rattle.bench_complete.specs.Merging.{of_channel}
use Rattle.bench_complete.specs.TimePackets.{times_in}
use Rattle.bench_complete.specs.Lanes.{Merges, parts_of}
use Rattle.bench_complete.specs.Complete.{Completes, Plan, plan_by, plan_of, extent_of, low_of, front_of, setup_pieces}
use Rattle.bench_complete.proofs.Merged.{bytes_of-append}
use Rattle.bench_complete.proofs.Running.{appends_both}

pub completed : (setup : Option (List ℕ)) (version low : ℕ) (times kept front other : List Piece) (got one two gets : Option (List ℕ)) → low ≡ low_of (extent_of (times ++ kept)) → leading kept ≡ front
    → other ≡ times ++ behind_leading kept → Appends got one (bytes_of (front_of setup version low)) → Appends one two (bytes_of front) → Merges other two gets
    → Completes (plan_of setup version times kept) got gets
completed setup version low times kept front other got one two gets is leads same added led m =
    let setups : List Piece = setup_pieces setup version (times ++ kept) in
    let whole : bytes_of (setups ++ leading kept) ≡ bytes_of (front_of setup version low) ++ bytes_of front =
    ap (λ (l : List Piece). bytes_of (setups ++ l)) leads ∙ bytes_of-append setups front ∙ ap (λ (k : ℕ). bytes_of (front_of setup version k) ++ bytes_of front) (sym is) in
    let both : Appends got two (bytes_of (setups ++ leading kept)) =
    subst (Appends got two) (sym whole) (appends_both got one two (bytes_of (front_of setup version low)) (bytes_of front) added led) in
    record {
      bytes = bytes_of ((setups ++ leading kept) ++ m.merged);
      complete = record { merged = m.merged; merge = record { channels = λ k. m.merge.channels k ∙ ap (of_channel k) same; order = m.merge.order }; is = refl };
      taken = subst (Appends got gets) (sym (bytes_of-append (setups ++ leading kept) m.merged)) (appends_both got two gets (bytes_of (setups ++ leading kept)) (bytes_of m.merged) both m.taken);
    }

-- the plan of a recording that is known
planned_of : {A B : Type 0} (f : A → B) (known : Option A) (plan : B) → option_map f known ≡ Some plan → (x : A) × (known ≡ Some x) × (f x ≡ plan)
planned_of f None plan is = absurd (cc)
planned_of f (Some x) plan is = (x, refl, cc)

-- the same of a recording that may be known, whose packets are parted where they no longer lead, and where the writer
-- may have failed
pub completed_if : (setup : Option (List ℕ)) (t : Times) (low : ℕ) (es front rest : List Placed) (view : Option Plan) (known : Option (List ℕ)) (got one two gets : Option (List ℕ)) (r : Result (Unit {0}) CompleteFault)
    → view ≡ option_map (plan_by setup t es) known
    → ((file : List ℕ) → low ≡ low_of (extent_of (times_in t ++ kept_entries file es)))
    → ((file : List ℕ) → leading (kept_entries file es) ≡ kept_entries file front)
    → ((file : List ℕ) → behind_leading (kept_entries file es) ≡ kept_entries file rest)
    → Appends got one (bytes_of (front_of setup t.version low))
    → ((file : List ℕ) → known ≡ Some file → Appends one two (bytes_of (kept_entries file front)))
    → OnOk r ((file : List ℕ) → known ≡ Some file → Merges (parts_of file rest t) two gets)
    → OnOk r ((plan : Plan) → view ≡ Some plan → Completes plan got gets)
completed_if setup t low es front rest view known got one two gets (Err f) shown is leads behind added led m = m
completed_if setup t low es front rest view known got one two gets (Ok u) shown is leads behind added led m = λ plan planned.
    let k = planned_of (plan_by setup t es) known plan (sym shown ∙ planned) in
    let file = k.0 in
    subst (λ (p : Plan). Completes p got gets) k.2
    (completed setup t.version low (times_in t) (kept_entries file es) (kept_entries file front) (parts_of file rest t) got one two gets (is file) (leads file)
    (ap (λ (l : List Piece). times_in t ++ l) (sym (behind file))) added (led file k.1) (m file k.1))

-- a writer that got bytes four times
pub four_written : (one two three four five : Option (List ℕ)) (a b c d : List ℕ) → Appends one two a → Appends two three b → Appends three four c → Appends four five d → Appends one five (a ++ (b ++ (c ++ d)))
four_written one two three four five a b c d first second third fourth =
    appends_both one two five a (b ++ (c ++ d)) first (appends_both two three five b (c ++ d) second (appends_both three four five c d third fourth))

-- at most three bytes of filler
pub filler_is : (count : ℕ) → count ≤ 3 → take {A = ℕ} count (0 ∷ 0 ∷ 0 ∷ []) ≡ replicate {A = ℕ} count 0
filler_is zero le = refl
filler_is (suc zero) le = refl
filler_is (suc (suc zero)) le = refl
filler_is (suc (suc (suc zero))) le = refl
filler_is (suc (suc (suc (suc n)))) le = absurd (omega (arith, le))
