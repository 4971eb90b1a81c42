-- A loadable code never gets stuck.
use Rattle.std.proofs.Common.{◌≡◌, ◌≢◌, ℕ, zero, suc, ◌+◌, ◌-◌, ◌<◌, Bool, true, false, cond, List, [], ◌∷◌, length, Some, refl, sym, ap, ◌∙◌, subst, arith}
use Rattle.std.specs.Prelude.{slice_get}
use Rattle.mil_word.specs.declared.Line.{Line}
use Rattle.mil_message.specs.World.{World, Point, other_line, asks, now_at}
use Rattle.frame_code.specs.declared.Op.{Op}
use Rattle.frame_code.specs.declared.Op.TheVariants.{Halt, Send, Alt, SetGap, Loop, Again, Leave, Jump, Test, JumpFalse, Call, Return, Begin, Pace}
use Rattle.frame_code.specs.Table.{Code, Registers, Running, Turn, goes_on, halted, stuck, sends, turns, leaves, counted, calls, comes_back, keeps_pace, act, step, then_run, run, start, at_place}
use Rattle.frame_code.specs.Routines.{routines, begin_of, main_of, routine_at, owner_at}
use Rattle.frame_load.specs.Runs.{Reaches}
use Rattle.frame_code.specs.Loadable.{after, open_at, IsLoadable}
use Rattle.frame_load.specs.declared.nesting.Kind.{Kind}
use Rattle.frame_load.specs.declared.nesting.Kind.TheVariants.{Loops, Frames}
use Rattle.frame_load.specs.declared.nesting.Effect.TheVariants.{Closes, Keeps}
use Rattle.frame_load.specs.Marks.{count_in, open_of, effect_of, depth_after}
use Rattle.frame_load.proofs.Counts.{by_kind, count_after, some_to_close, beside}
use Rattle.frame_load.proofs.Opened.{EndsClosed, IsHalt, IsReturn, begun_at, begun_inside, home, home_behind, main_begun, next_up, next_within, open_behind, opened, routine_le, routine_there, routines_are, same_home, same_routine, there}

-- the routines under way, from the one of this number outwards, by the places behind their Calls
abbrev pub Chain : List Op → ℕ → List ℕ → Type 0
Chain os k [] = k ≡ owner_at os (length os)
Chain os k (q ∷ qs) = (c : ℕ) × (q ≡ suc c) × (slice_get os c ≡ Some (Call k)) × Chain os (owner_at os c) qs

-- how many brackets of a kind are open in the outer ones
abbrev pub outer_of : Kind → List Op → List ℕ → ℕ
outer_of kind os [] = 0
outer_of kind os (q ∷ qs) = open_of kind os q + outer_of kind os qs

-- what is kept of the open brackets of a kind
abbrev pub open_entries : Kind → Registers → List ℕ
open_entries Loops r = r.counters
open_entries Frames r = r.frames

-- what stands at each step of a run
pub record Fits (code : Code) (r : Registers) : Type 0 where
  pub inside : r.place < length code.operations
  pub stands : (kind : Kind) → length (open_entries kind r) ≡ open_of kind code.operations r.place + outer_of kind code.operations r.returns
  pub chain : Chain code.operations (owner_at code.operations r.place) r.returns

abbrev pub FitsAfter : {State Outcome : Type 0} → Code → Turn (Running State Outcome) → Type 0
FitsAfter code (goes_on x) = Fits code x.at
FitsAfter code halted = Unit {0}
FitsAfter code stuck = ⊥

-- where brackets of a kind are open, some are
filled : (kind : Kind) (os : List Op) (st : List ℕ) → 0 < count_in kind os st → 0 < length st
filled kind os [] h = absurd (omega (arith, h))
filled kind os (s ∷ st) h = omega arith

-- an operation that has its next one in the same routine
abbrev pub IsEnd : Op → Type 0
IsEnd Halt = Unit {0}
IsEnd Return = Unit {0}
IsEnd _ = ⊥

no_halt : (o : Op) → (IsEnd o → ⊥) → IsHalt o → ⊥
no_halt Halt h x = h tt
no_halt _ h x = x

pub no_return : (o : Op) → (IsEnd o → ⊥) → IsReturn o → ⊥
no_return Return h x = h tt
no_return _ h x = x

module _ {State Outcome : Type 0} (w : World State Outcome) (code : Code) (ok : IsLoadable code) where
  closed : EndsClosed code.operations
  closed p e = ok.nested.paired p Return e

  abbrev outer : Kind → Registers → ℕ
  outer kind r = outer_of kind code.operations r.returns

  -- what is kept behind an operation, as it does no more than this to what is open
  abbrev Kept : Registers → Registers → Op → Type 0
  Kept r r' o = (kind : Kind) → length (open_entries kind r') ≡ depth_after (effect_of o kind) (length (open_entries kind r))

  -- what stands behind an operation at some place that stands in the same brackets
  kept_behind : (r r' : Registers) (q : ℕ) (o : Op) → slice_get code.operations q ≡ Some o → open_at code.operations q ≡ open_at code.operations r.place → Fits code r → Kept r r' o
      → (kind : Kind) → length (open_entries kind r') ≡ open_of kind code.operations (suc q) + outer kind r
  kept_behind r r' q o e same f long kind =
      let os = code.operations in
      let st = open_at os q in
      let pair = ok.nested.paired q o e in
      long kind ∙ ap (depth_after (effect_of o kind)) (f.stands kind) ∙ ap (λ v. depth_after (effect_of o kind) (count_in kind os v + outer kind r)) (sym same)
      ∙ beside (effect_of o kind) (count_in kind os st) (outer kind r) (some_to_close os kind o st pair)
      ∙ ap (λ v. v + outer kind r) (sym (count_after os kind o q st e pair) ∙ ap (λ v. count_in kind os (after v q st)) (sym e))

  -- another place in the same routine
  goes_fit : (r r' : Registers) (i : ℕ) → Fits code r → i < length code.operations → owner_at code.operations i ≡ owner_at code.operations r.place → r'.place ≡ i → r'.returns ≡ r.returns
      → ((kind : Kind) → length (open_entries kind r') ≡ open_of kind code.operations i + outer kind r) → Fits code r'
  goes_fit r r' i f lt home here back long = record {
    inside = omega (arith, here, lt);
    stands = λ kind. long kind ∙ ap (λ q. open_of kind code.operations q + outer kind r) (sym here) ∙ ap (λ qs. open_of kind code.operations r'.place + outer_of kind code.operations qs) (sym back);
    chain = subst (λ qs. Chain code.operations (owner_at code.operations r'.place) qs) (sym back) (subst (λ k. Chain code.operations k r.returns) (sym home ∙ ap (owner_at code.operations) (sym here)) f.chain);
  }

  -- the next place, where the operation ends no routine
  falls : (r r' : Registers) (o : Op) → slice_get code.operations r.place ≡ Some o → (IsEnd o → ⊥) → Fits code r → r'.place ≡ r.place + 1 → r'.returns ≡ r.returns → Kept r r' o → Fits code r'
  falls r r' o e going f here back long =
      goes_fit r r' (suc r.place) f (omega (arith, next_within code.operations r.place o ok.ends e (no_halt o going))) (same_routine code.operations r.place o e (no_return o going)) (omega (arith, here)) back
      (kept_behind r r' r.place o e refl f long)

  sends_fit : (r : Registers) (p : Point State Outcome) (o : Op) (m : ℕ) (on : Line → Line) → slice_get code.operations r.place ≡ Some o → (IsEnd o → ⊥) → ((kind : Kind) → effect_of o kind ≡ Keeps) → m < length code.messages → Fits code r → FitsAfter code (sends w (slice_get code.messages m) on r p)
  sends_fit r p o m on e going keeps h f =
      let x = there code.messages m h in
      let r' = record r { place = r.place + 1; line = on x.0.0 } in
      let same : Kept r r' o = by_kind (λ kind. length (open_entries kind r') ≡ depth_after (effect_of o kind) (length (open_entries kind r))) (ap (λ v. depth_after v (length r.counters)) (sym (keeps Loops))) (ap (λ v. depth_after v (length r.frames)) (sym (keeps Frames))) in
      subst (λ v. FitsAfter code (sends w v on r p)) (sym x.1) (falls r r' o e going f refl refl same)

  -- a place in the same brackets
  jumps_fit : (r r' : Registers) (i : ℕ) → Fits code r → i < length code.operations → open_at code.operations i ≡ open_at code.operations r.place → owner_at code.operations i ≡ owner_at code.operations r.place
      → r'.place ≡ i → r'.returns ≡ r.returns → ((kind : Kind) → length (open_entries kind r') ≡ length (open_entries kind r)) → Fits code r'
  jumps_fit r r' i f lt same home here back long =
      goes_fit r r' i f lt home here back (λ kind. long kind ∙ f.stands kind ∙ ap (λ st. count_in kind code.operations st + outer kind r) (sym same))

  -- none is open where nothing is kept
  none_kept : (kind : Kind) (r : Registers) (o : Op) → slice_get code.operations r.place ≡ Some o → effect_of o kind ≡ Closes → Fits code r → length (open_entries kind r) ≡ 0 → ⊥
  none_kept kind r o e closes f none = omega (arith, none, f.stands kind, some_to_close code.operations kind o (open_at code.operations r.place) (ok.nested.paired r.place o e) closes)

  turns_fit : (r : Registers) (p : Point State Outcome) (i : ℕ) (cs : List ℕ) → r.counters ≡ cs → slice_get code.operations r.place ≡ Some (Again i) → Fits code r → FitsAfter code (turns w cs i r p)
  turns_fit r p i [] c e f = absurd (none_kept Loops r (Again i) e refl f (ap length c))
  turns_fit r p i (n ∷ ns) c e f = by_count (n - 1)
    where
      by_count : (k : ℕ) → FitsAfter code (counted w k ns i r p)
      by_count zero = let r' = record r { place = r.place + 1; counters = ns } in falls r r' (Again i) e (λ x. x) f refl refl (by_kind (λ kind. length (open_entries kind r') ≡ depth_after (effect_of (Again i) kind) (length (open_entries kind r))) (omega (arith, ap length c)) refl)
      by_count (suc k) =
          let os = code.operations in
          let g = ok.jumps r.place (Again i) e in
          let a = opened os r.place r.place g.0 g.1 (omega arith) g.2 in
          let r' = record r { place = i; counters = suc k ∷ ns } in
          jumps_fit r r' i f (omega (arith, g.3, a.2, f.inside)) (ap (open_at os) g.3 ∙ open_behind os r.place g.0 g.1 a ∙ sym g.2)
          (ap (owner_at os) g.3 ∙ home_behind os r.place g.0 g.1 a ∙ home os closed r.place r.place g.0 g.1 (omega arith) g.2) refl refl
          (by_kind (λ kind. length (open_entries kind r') ≡ length (open_entries kind r)) (omega (arith, ap length c)) refl)

  leaves_fit : (r : Registers) (p : Point State Outcome) (i : ℕ) (cs : List ℕ) → r.counters ≡ cs → slice_get code.operations r.place ≡ Some (Leave i) → Fits code r → FitsAfter code (leaves w cs i r p)
  leaves_fit r p i [] c e f = absurd (omega (arith, ap length c, f.stands Loops, ok.nested.paired r.place (Leave i) e))
  leaves_fit r p i (n ∷ ns) c e f =
      let os = code.operations in
      let g = ok.jumps r.place (Leave i) e in
      let q = g.0 in
      let at = g.3 in
      let r' = record r { place = i; counters = ns } in
      let in_q : 0 < length (open_at os r.place) = filled Loops os (open_at os r.place) (ok.nested.paired r.place (Leave i) e) in
      let there : owner_at os (suc q) ≡ owner_at os r.place = same_routine os q (Again g.1) at (λ x. x) ∙ same_home os closed q r.place g.4 in_q in
      goes_fit r r' (suc q) f (omega (arith, next_within os q (Again g.1) ok.ends at (λ x. x))) there g.2 refl
      (kept_behind r r' q (Again g.1) at g.4 f (by_kind (λ kind. length (open_entries kind r') ≡ depth_after (effect_of (Again g.1) kind) (length (open_entries kind r))) (omega (arith, ap length c)) refl))

  paces_fit : (r : Registers) (p : Point State Outcome) (t : ℕ) (bs : List ℕ) → r.frames ≡ bs → slice_get code.operations r.place ≡ Some (Pace t) → Fits code r → FitsAfter code (keeps_pace w bs t r p)
  paces_fit r p t [] c e f = absurd (none_kept Frames r (Pace t) e refl f (ap length c))
  paces_fit r p t (b ∷ bs) c e f =
      let r' = record r { place = r.place + 1; frames = bs } in
      falls r r' (Pace t) e (λ x. x) f refl refl (by_kind (λ kind. length (open_entries kind r') ≡ depth_after (effect_of (Pace t) kind) (length (open_entries kind r))) refl (omega (arith, ap length c)))

  branch_fits : (r : Registers) (p : Point State Outcome) (i : ℕ) (b : Bool) → slice_get code.operations r.place ≡ Some (JumpFalse i) → Fits code r → Fits code (at_place r (cond b (r.place + 1) i))
  branch_fits r p i true e f = falls r (at_place r (r.place + 1)) (JumpFalse i) e (λ x. x) f refl refl (by_kind (λ kind. length (open_entries kind (at_place r (r.place + 1))) ≡ length (open_entries kind r)) refl refl)
  branch_fits r p i false e f = let g = ok.jumps r.place (JumpFalse i) e in jumps_fit r (at_place r i) i f g.1 g.2 g.3 refl refl (by_kind (λ kind. length (open_entries kind (at_place r i)) ≡ length (open_entries kind r)) refl refl)

  -- a Call goes to where its routine begins
  calls_fit : (r : Registers) (p : Point State Outcome) (k : ℕ) → slice_get code.operations r.place ≡ Some (Call k) → Fits code r → FitsAfter code (calls w (routine_at code.operations k) r p)
  calls_fit r p k e f =
      let os = code.operations in
      let below : k < owner_at os r.place = ok.routines_ok.earlier r.place (Call k) e in
      let few = routine_le os r.place (length os) (omega (arith, f.inside)) in
      let there : k < routines os = omega (arith, below, few, routines_are os) in
      let b = begin_of os k in
      let g = begun_at os closed k (omega (arith, there)) in
      let s : r.place + 1 ≡ suc r.place = omega arith in
      let next : open_at os (r.place + 1) ≡ open_at os r.place = ap (open_at os) s ∙ ap (λ v. after v r.place (open_at os r.place)) e in
      let r' = record r { place = b; returns = (r.place + 1) ∷ r.returns } in
      let same : (kind : Kind) → length (open_entries kind r') ≡ length (open_entries kind r) = by_kind (λ kind. length (open_entries kind r') ≡ length (open_entries kind r)) refl refl in
      let fits : Fits code r' = record {
        inside = begun_inside os k b ok.ends g;
        stands = λ kind. omega (arith, same kind, f.stands kind, ap (count_in kind os) g.none_open, ap (count_in kind os) next);
        chain = (r.place, s, e ∙ ap (λ j. Some (Call j)) (sym g.routine), f.chain);
      } in
      subst (λ v. FitsAfter code (calls w v r p)) (sym (routine_there os k there)) fits

  -- a Return goes behind the Call
  backs_fit : (r : Registers) (p : Point State Outcome) (qs : List ℕ) → r.returns ≡ qs → slice_get code.operations r.place ≡ Some Return → Fits code r → FitsAfter code (comes_back w qs r p)
  backs_fit r p [] c e f =
      let last : owner_at code.operations r.place ≡ owner_at code.operations (length code.operations) = subst (Chain code.operations (owner_at code.operations r.place)) c f.chain in
      let le = routine_le code.operations (suc r.place) (length code.operations) (omega (arith, f.inside)) in
      absurd (omega (arith, last, le, next_up code.operations r.place e))
  backs_fit r p (q ∷ qs) c e f =
      let os = code.operations in
      let g = subst (Chain os (owner_at os r.place)) c f.chain in
      let k = owner_at os r.place in
      let home : owner_at os q ≡ owner_at os g.0 = ap (owner_at os) g.1 ∙ same_routine os g.0 (Call k) g.2 (λ x. x) in
      let r' = record r { place = q; returns = qs } in
      let same : (kind : Kind) → length (open_entries kind r') ≡ length (open_entries kind r) = by_kind (λ kind. length (open_entries kind r') ≡ length (open_entries kind r)) refl refl in
      record {
        inside = omega (arith, g.1, next_within os g.0 (Call k) ok.ends g.2 (λ x. x));
        stands = λ kind. omega (arith, same kind, f.stands kind, ap (count_in kind os) (ok.nested.paired r.place Return e), ap (outer_of kind os) c);
        chain = subst (λ j. Chain os j qs) (sym home) g.3;
      }

  pub step_fits : (r : Registers) (p : Point State Outcome) → Fits code r → FitsAfter code (step w code r p)
  step_fits r p f = let x = there code.operations r.place f.inside in subst (λ v. FitsAfter code (act w v code r p)) (sym x.1) (by_op x.0 x.1)
    where
      -- nothing that is kept changes
      same : (r' : Registers) → r'.counters ≡ r.counters → r'.frames ≡ r.frames → (kind : Kind) → length (open_entries kind r') ≡ length (open_entries kind r)
      same r' a b = by_kind (λ kind. length (open_entries kind r') ≡ length (open_entries kind r)) (ap length a) (ap length b)

      by_op : (o : Op) → slice_get code.operations r.place ≡ Some o → FitsAfter code (act w (Some o) code r p)
      by_op Halt e = tt
      by_op (Send m) e = sends_fit r p (Send m) m (λ l. l) e (λ x. x) (λ kind. refl) (ok.messages r.place (Send m) e) f
      by_op (Alt m) e = sends_fit r p (Alt m) m (λ l. other_line r.line) e (λ x. x) (λ kind. refl) (ok.messages r.place (Alt m) e) f
      by_op (SetGap t) e = let r' = at_place r (r.place + 1) in falls r r' (SetGap t) e (λ x. x) f refl refl (same r' refl refl)
      by_op (Loop n) e = let r' = record r { place = r.place + 1; counters = n ∷ r.counters } in falls r r' (Loop n) e (λ x. x) f refl refl (by_kind (λ kind. length (open_entries kind r') ≡ depth_after (effect_of (Loop n) kind) (length (open_entries kind r))) (omega arith) refl)
      by_op (Again i) e = turns_fit r p i r.counters refl e f
      by_op (Leave i) e = leaves_fit r p i r.counters refl e f
      by_op (Jump i) e = let g = ok.jumps r.place (Jump i) e in let r' = at_place r i in jumps_fit r r' i f g.1 g.2 g.3 refl refl (same r' refl refl)
      by_op (Test k) e = let r' = record r { place = r.place + 1; flag = asks w k p } in falls r r' (Test k) e (λ x. x) f refl refl (same r' refl refl)
      by_op (JumpFalse i) e = branch_fits r p i r.flag e f
      by_op (Call k) e = calls_fit r p k e f
      by_op Return e = backs_fit r p r.returns refl e f
      by_op Begin e = let r' = record r { place = r.place + 1; frames = now_at w p ∷ r.frames } in falls r r' Begin e (λ x. x) f refl refl (by_kind (λ kind. length (open_entries kind r') ≡ depth_after (effect_of Begin kind) (length (open_entries kind r))) refl (omega arith))
      by_op (Pace t) e = paces_fit r p t r.frames refl e f

  then_fits : (n : ℕ) (r : Registers) (p : Point State Outcome) → Fits code r → (t : Turn (Running State Outcome)) → FitsAfter code t → ((x : Running State Outcome) → Fits code x.at → FitsAfter code (run w n code x.at x.point)) → FitsAfter code (then_run w t (record { at = r; point = p }) (run w n code))
  then_fits n r p f (goes_on x) g next = next x g
  then_fits n r p f halted g next = f
  then_fits n r p f stuck g next = g

  run_fits : (n : ℕ) (r : Registers) (p : Point State Outcome) → Fits code r → FitsAfter code (run w n code r p)
  run_fits zero r p f = f
  run_fits (suc n) r p f = then_fits n r p f (step w code r p) (step_fits r p f) (λ x g. run_fits n x.at x.point g)

  pub start_fits : Fits code (start code)
  start_fits =
      let g = main_begun code.operations closed in
      record {
        inside = begun_inside code.operations (routines code.operations) (main_of code.operations) ok.ends g;
        stands = by_kind (λ kind. length (open_entries kind (start code)) ≡ open_of kind code.operations (main_of code.operations) + 0) (omega (arith, ap (count_in Loops code.operations) g.none_open)) (omega (arith, ap (count_in Frames code.operations) g.none_open));
        chain = g.routine ∙ routines_are code.operations;
      }

  -- what stands where a run comes
  pub reached_fits : (from : Point State Outcome) (x : Running State Outcome) → Reaches w code from x → Fits code x.at
  reached_fits from x r = subst (FitsAfter code) r.1 (run_fits r.0 (start code) from start_fits)

  pub never_stuck : (from : Point State Outcome) (x : Running State Outcome) → Reaches w code from x → step w code x.at x.point ≢ stuck
  never_stuck from x r e = subst (FitsAfter code) e (step_fits x.at x.point (reached_fits from x r))

  -- one step more
  then_more : (n : ℕ) (r : Registers) (p : Point State Outcome) (x y : Running State Outcome) (t : Turn (Running State Outcome)) → step w code r p ≡ t
      → ((z : Running State Outcome) → run w n code z.at z.point ≡ goes_on x → run w (suc n) code z.at z.point ≡ goes_on y)
      → step w code x.at x.point ≡ goes_on y → then_run w t (record { at = r; point = p }) (run w n code) ≡ goes_on x → then_run w t (record { at = r; point = p }) (run w (suc n) code) ≡ goes_on y
  then_more n r p x y (goes_on z) s more e h = more z h
  then_more n r p x y halted s more e h =
      let here : record { at = r; point = p } ≡ x = cc in
      let no : halted ≡ goes_on y = sym s ∙ ap (λ v. step w code v.at v.point) here ∙ e in
      absurd (cc)
  then_more n r p x y stuck s more e h = absurd (cc)

  run_more : (n : ℕ) (r : Registers) (p : Point State Outcome) (x y : Running State Outcome) → step w code x.at x.point ≡ goes_on y → run w n code r p ≡ goes_on x → run w (suc n) code r p ≡ goes_on y
  run_more zero r p x y e h =
      let here : record { at = r; point = p } ≡ x = cc in
      let s : step w code r p ≡ goes_on y = ap (λ v. step w code v.at v.point) here ∙ e in
      ap (λ t. then_run w t (record { at = r; point = p }) (run w zero code)) s
  run_more (suc n) r p x y e h = then_more n r p x y (step w code r p) refl (λ z g. run_more n z.at z.point x y e g) e h

  pub reaches_more : (from : Point State Outcome) (x y : Running State Outcome) → Reaches w code from x → step w code x.at x.point ≡ goes_on y → Reaches w code from y
  reaches_more from x y r e = (suc r.0, run_more r.0 (start code) from x y e r.1)
