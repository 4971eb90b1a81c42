-- The operations do what the frame means, in any world.
use Rattle.std.proofs.Common.{◌≡◌, ℕ, zero, suc, ◌+◌, ◌-◌, ◌<◌, ◌≤◌, Bool, true, false, cond, List, [], ◌∷◌, ◌++◌, length, Some, refl, ap, ◌∙◌, subst, arith, append_assoc, length-append}
use Rattle.std.specs.Prelude.{slice_get, not, ◌&&◌, ◌||◌}
use Rattle.std.proofs.Math.Seq.{get_or-append_seam}
use Rattle.std.proofs.lemmas.Option.{slice_get-get_or}
use Rattle.mil_word.specs.declared.Line.{Line}
use Rattle.mil_message.specs.declared.messages.Message.{Message}
use Rattle.mil_message.specs.World.{World, Point, other_line, sent, asks}
use Rattle.mil_message.specs.declared.outcome_test.OutcomeTest.{OutcomeTest}
use Rattle.mil_message.specs.declared.outcome_test.OutcomeTest.TheVariants.{Failed}
use Rattle.frame_tree.specs.Tree.{Condition, asked, negated, both, either}
use Rattle.frame_tree.specs.Meaning.{times, condition_meaning, attempts, turns_until}
use Rattle.frame_code.specs.declared.Op.{Op}
use Rattle.frame_code.specs.declared.Op.TheVariants as op
use Rattle.frame_code.specs.Table.{Code, Registers, sends, counted, act, then_run, run}
use Rattle.frame_asm.proofs.Lengths.{length_branch}
use Rattle.frame_asm.specs.Shapes.{branch_size, probe, branch, retry_shape}

-- these stand in the list at this place
abbrev pub HasAt : {X : Type 0} → List X → ℕ → List X → Type 0
HasAt xs i [] = Unit {0}
HasAt xs i (y ∷ ys) = (slice_get xs i ≡ Some y) × HasAt xs (i + 1) ys

pub has_front : {X : Type 0} (xs : List X) (i : ℕ) (a b : List X) → HasAt xs i (a ++ b) → HasAt xs i a
has_front xs i [] b h = tt
has_front xs i (y ∷ a) b h = (h.0, has_front xs (i + 1) a b h.1)

pub has_back : {X : Type 0} (xs : List X) (i j : ℕ) (a b : List X) → i + length a ≡ j → HasAt xs i (a ++ b) → HasAt xs j b
has_back xs i j [] b e h = let e' : i ≡ j = omega arith in subst (λ n. HasAt xs n b) e' h
has_back xs i j (y ∷ a) b e h = has_back xs (i + 1) j a b (omega arith) h.1

pub has_all : {X : Type 0} (is pre : List X) → HasAt (pre ++ is) (length pre) is
has_all [] pre = tt
has_all (i ∷ is) pre =
    let within : length pre < length (pre ++ i ∷ is) = omega (arith, length-append pre (i ∷ is)) in
    let here = slice_get-get_or (pre ++ i ∷ is) (length pre) i within ∙ ap Some (get_or-append_seam pre i is i) in
    let n : length (pre ++ i ∷ []) ≡ length pre + 1 = omega (arith, length-append pre (i ∷ [])) in
    let rest = has_all is (pre ++ i ∷ []) in
    let rest' = subst (λ l. HasAt l (length (pre ++ i ∷ [])) is) (append_assoc pre (i ∷ []) is) rest in
    (here, subst (λ m. HasAt (pre ++ i ∷ is) m is) n rest')

abbrev pub regs : List ℕ → List ℕ → ℕ → List ℕ → Bool → Line → Registers
regs is fs i cs f l = record { place = i; counters = cs; returns = is; frames = fs; flag = f; line = l }

-- runs that keep these return places and open frames
module _ {State Outcome : Type 0} (w : World State Outcome) (code : Code) (is fs : List ℕ) where
  -- one operation
  pub one : (i : ℕ) (cs : List ℕ) (f : Bool) (l : Line) (p : Point State Outcome) (o : Op) → slice_get code.operations i ≡ Some o → (k : ℕ)
      → run w (suc k) code (regs is fs i cs f l) p ≡ then_run w (act w (Some o) code (regs is fs i cs f l) p) (record { at = regs is fs i cs f l; point = p }) (run w k code)
  one i cs f l p o h k = ap (λ v. then_run w (act w v code (regs is fs i cs f l) p) (record { at = regs is fs i cs f l; point = p }) (run w k code)) h

  -- the machine comes from here to there
  pub record Comes (i : ℕ) (cs : List ℕ) (f : Bool) (l : Line) (p : Point State Outcome) (i' : ℕ) (cs' : List ℕ) (p' : Point State Outcome) : Type 0 where
    pub flag : Bool
    pub line : Line
    pub by : (k : ℕ) → (j : ℕ) × (run w j code (regs is fs i cs f l) p ≡ run w k code (regs is fs i' cs' flag line) p')

  abbrev pub Does : ℕ → List ℕ → Point State Outcome → ℕ → List ℕ → Point State Outcome → Type 0
  Does i cs p i' cs' p' = (f : Bool) (l : Line) → Comes i cs f l p i' cs' p'

  -- one step, and what follows
  pub next : (i i1 i2 : ℕ) (cs cs1 cs2 : List ℕ) (f f1 : Bool) (l l1 : Line) (p p1 p2 : Point State Outcome)
      → ((k : ℕ) → run w (suc k) code (regs is fs i cs f l) p ≡ run w k code (regs is fs i1 cs1 f1 l1) p1) → Comes i1 cs1 f1 l1 p1 i2 cs2 p2 → Comes i cs f l p i2 cs2 p2
  next i i1 i2 cs cs1 cs2 f f1 l l1 p p1 p2 s c =
      record { flag = c.flag; line = c.line; by = λ k. let a = c.by k in (suc a.0, s a.0 ∙ a.1) }

  pub here : (i i' : ℕ) (cs : List ℕ) (f : Bool) (l : Line) (p : Point State Outcome) → i ≡ i' → Comes i cs f l p i' cs p
  here i i' cs f l p e = record { flag = f; line = l; by = λ k. (k, ap (λ n. run w k code (regs is fs n cs f l) p) e) }

  pub both_do : (i i1 i2 : ℕ) (cs cs1 cs2 : List ℕ) (f : Bool) (l : Line) (p p1 p2 : Point State Outcome) → Comes i cs f l p i1 cs1 p1 → Does i1 cs1 p1 i2 cs2 p2 → Comes i cs f l p i2 cs2 p2
  both_do i i1 i2 cs cs1 cs2 f l p p1 p2 a d =
      let b = d a.flag a.line in
      record { flag = b.flag; line = b.line; by = λ k. let y = b.by k in let x = a.by y.0 in (x.0, x.1 ∙ y.1) }

  pub at_end : (i i1 i2 : ℕ) (cs cs1 : List ℕ) (f : Bool) (l : Line) (p p1 : Point State Outcome) → i1 ≡ i2 → Comes i cs f l p i1 cs1 p1 → Comes i cs f l p i2 cs1 p1
  at_end i i1 i2 cs cs1 f l p p1 e c = subst (λ n. Comes i cs f l p n cs1 p1) e c

  -- a message
  pub send_runs : (i m : ℕ) (cs : List ℕ) (p : Point State Outcome) (l : Line) (x : Message) → slice_get code.operations i ≡ Some (op.Send m) → slice_get code.messages m ≡ Some (l, x)
      → (f : Bool) (l0 : Line) (k : ℕ) → run w (suc k) code (regs is fs i cs f l0) p ≡ run w k code (regs is fs (i + 1) cs f l) (sent w l x p)
  send_runs i m cs p l x h g f l0 k =
      one i cs f l0 p (op.Send m) h k
      ∙ ap (λ v. then_run w (sends w v (λ l. l) (regs is fs i cs f l0) p) (record { at = regs is fs i cs f l0; point = p }) (run w k code)) g

  alt_runs : (i m : ℕ) (cs : List ℕ) (p : Point State Outcome) (l : Line) (x : Message) → slice_get code.operations i ≡ Some (op.Alt m) → slice_get code.messages m ≡ Some (l, x)
      → (f : Bool) (l0 : Line) (k : ℕ) → run w (suc k) code (regs is fs i cs f l0) p ≡ run w k code (regs is fs (i + 1) cs f (other_line l0)) (sent w (other_line l0) x p)
  alt_runs i m cs p l x h g f l0 k =
      one i cs f l0 p (op.Alt m) h k
      ∙ ap (λ v. then_run w (sends w v (λ l. other_line l0) (regs is fs i cs f l0) p) (record { at = regs is fs i cs f l0; point = p }) (run w k code)) g

  -- a test
  goes : (b : Bool) (i t f : ℕ) (cs : List ℕ) (l : Line) (p : Point State Outcome) → slice_get code.operations (i + 1) ≡ Some (op.JumpFalse f) → slice_get code.operations (i + 1 + 1) ≡ Some (op.Jump t) → Comes (i + 1) cs b l p (cond b t f) cs p
  goes true i t f cs l p h g =
      next (i + 1) (i + 1 + 1) t cs cs cs true true l l p p p (one (i + 1) cs true l p (op.JumpFalse f) h)
      (next (i + 1 + 1) t t cs cs cs true true l l p p p (one (i + 1 + 1) cs true l p (op.Jump t) g) (here t t cs true l p refl))
  goes false i t f cs l p h g =
      next (i + 1) f f cs cs cs false false l l p p p (one (i + 1) cs false l p (op.JumpFalse f) h) (here f f cs false l p refl)

  probe_runs : (k : OutcomeTest) (i t f : ℕ) (cs : List ℕ) (p : Point State Outcome) → HasAt code.operations i (probe k t f) → Does i cs p (cond (asks w k p) t f) cs p
  probe_runs k i t f cs p h f0 l =
      next i (i + 1) _ cs cs cs f0 (asks w k p) l l p p p (one i cs f0 l p (op.Test k) h.0) (goes (asks w k p) i t f cs l p h.1.0 h.1.1.0)

  cond-not : (b : Bool) (t f : ℕ) → cond b f t ≡ cond (not b) t f
  cond-not true t f = refl
  cond-not false t f = refl

  and_runs : (a b : Bool) (i j t f : ℕ) (cs : List ℕ) (p : Point State Outcome) → Does i cs p (cond a j f) cs p → Does j cs p (cond b t f) cs p → Does i cs p (cond (a && b) t f) cs p
  and_runs true b i j t f cs p x y f0 l = both_do i j _ cs cs cs f0 l p p p (x f0 l) y
  and_runs false b i j t f cs p x y f0 l = x f0 l

  or_runs : (a b : Bool) (i j t f : ℕ) (cs : List ℕ) (p : Point State Outcome) → Does i cs p (cond a t j) cs p → Does j cs p (cond b t f) cs p → Does i cs p (cond (a || b) t f) cs p
  or_runs true b i j t f cs p x y f0 l = x f0 l
  or_runs false b i j t f cs p x y f0 l = both_do i j _ cs cs cs f0 l p p p (x f0 l) y

  pub branch_runs : (c : Condition) (i t f : ℕ) (cs : List ℕ) (p : Point State Outcome) → HasAt code.operations i (branch i c t f) → Does i cs p (cond (condition_meaning w c p) t f) cs p
  branch_runs (asked k) i t f cs p h = probe_runs k i t f cs p h
  branch_runs (negated c) i t f cs p h = λ f0 l.
      at_end i _ _ cs cs f0 l p p (cond-not (condition_meaning w c p) t f) (branch_runs c i f t cs p h f0 l)
  branch_runs (both a b) i t f cs p h =
      let j = i + branch_size a in
      and_runs (condition_meaning w a p) (condition_meaning w b p) i j t f cs p
      (branch_runs a i j f cs p (has_front code.operations i (branch i a j f) _ h))
      (branch_runs b j t f cs p (has_back code.operations i j (branch i a j f) _ (ap (λ n. i + n) (length_branch a i j f)) h))
  branch_runs (either a b) i t f cs p h =
      let j = i + branch_size a in
      or_runs (condition_meaning w a p) (condition_meaning w b p) i j t f cs p
      (branch_runs a i t j cs p (has_front code.operations i (branch i a t j) _ h))
      (branch_runs b j t f cs p (has_back code.operations i j (branch i a t j) _ (ap (λ n. i + n) (length_branch a i t j)) h))

  -- the end of a turn, where the counter was suc n
  again_runs : (n i j : ℕ) (cs : List ℕ) (f : Bool) (l : Line) (p : Point State Outcome) → slice_get code.operations i ≡ Some (op.Again j)
      → (k : ℕ) → run w (suc k) code (regs is fs i (suc n ∷ cs) f l) p ≡ then_run w (counted w n cs j (regs is fs i (suc n ∷ cs) f l) p) (record { at = regs is fs i (suc n ∷ cs) f l; point = p }) (run w k code)
  again_runs n i j cs f l p h k =
      let e : suc n - 1 ≡ n = omega arith in
      one i (suc n ∷ cs) f l p (op.Again j) h k
      ∙ ap (λ v. then_run w (counted w v cs j (regs is fs i (suc n ∷ cs) f l) p) (record { at = regs is fs i (suc n ∷ cs) f l; point = p }) (run w k code)) e

  -- n + 1 turns of a loop, from its first operation
  loop_runs : (n i e : ℕ) (cs : List ℕ) (body : Point State Outcome → Point State Outcome) → slice_get code.operations e ≡ Some (op.Again i)
      → ((c : ℕ) (p : Point State Outcome) → Does i (c ∷ cs) p e (c ∷ cs) (body p)) → (p : Point State Outcome) → Does i (suc n ∷ cs) p (e + 1) cs (times (suc n) body p)
  loop_runs zero i e cs body h d p f l =
      both_do i e (e + 1) (1 ∷ cs) (1 ∷ cs) cs f l p (body p) (body p) (d 1 p f l)
      (λ f1 l1. next e (e + 1) (e + 1) (1 ∷ cs) cs cs f1 f1 l1 l1 (body p) (body p) (body p) (again_runs zero e i cs f1 l1 (body p) h) (here (e + 1) (e + 1) cs f1 l1 (body p) refl))
  loop_runs (suc n) i e cs body h d p f l =
      both_do i e (e + 1) (suc (suc n) ∷ cs) (suc (suc n) ∷ cs) cs f l p (body p) _ (d (suc (suc n)) p f l)
      (λ f1 l1. next e i (e + 1) (suc (suc n) ∷ cs) (suc n ∷ cs) cs f1 f1 l1 l1 (body p) (body p) _ (again_runs (suc n) e i cs f1 l1 (body p) h) (loop_runs n i e cs body h d (body p) f1 l1))

  -- attempts, from the test
  module _ (i m n0 : ℕ) (cs : List ℕ) (line : Line) (x : Message) (has : HasAt code.operations i (retry_shape i m n0)) (entry : slice_get code.messages m ≡ Some (line, x)) where
    at_test : slice_get code.operations (i + 2) ≡ Some (op.Test Failed)
    at_test = let e : i + 1 + 1 ≡ i + 2 = omega arith in rw e at has.1.1.0

    at_jump_false : slice_get code.operations (i + 3) ≡ Some (op.JumpFalse (i + 6))
    at_jump_false = let e : i + 1 + 1 + 1 ≡ i + 3 = omega arith in rw e at has.1.1.1.0

    at_alt : slice_get code.operations (i + 4) ≡ Some (op.Alt m)
    at_alt = let e : i + 1 + 1 + 1 + 1 ≡ i + 4 = omega arith in rw e at has.1.1.1.1.0

    at_jump : slice_get code.operations (i + 5) ≡ Some (op.Jump (i + 7))
    at_jump = let e : i + 1 + 1 + 1 + 1 + 1 ≡ i + 5 = omega arith in rw e at has.1.1.1.1.1.0

    at_leave : slice_get code.operations (i + 6) ≡ Some (op.Leave (i + 8))
    at_leave = let e : i + 1 + 1 + 1 + 1 + 1 + 1 ≡ i + 6 = omega arith in rw e at has.1.1.1.1.1.1.0

    at_again : slice_get code.operations (i + 7) ≡ Some (op.Again (i + 2))
    at_again = let e : i + 1 + 1 + 1 + 1 + 1 + 1 + 1 ≡ i + 7 = omega arith in rw e at has.1.1.1.1.1.1.1.0

    -- a counter that runs out at i + 7
    turn_ends : (p : Point State Outcome) (f : Bool) (l : Line) → Comes (i + 7) (1 ∷ cs) f l p (i + 8) cs p
    turn_ends p f l =
        let e : i + 7 + 1 ≡ i + 8 = omega arith in
        next (i + 7) (i + 7 + 1) (i + 8) (1 ∷ cs) cs cs f f l l p p p (again_runs zero (i + 7) (i + 2) cs f l p at_again) (here (i + 7 + 1) (i + 8) cs f l p e)

    one_attempt : (n : ℕ) (l : Line) (p : Point State Outcome) (f : Bool)
        → Comes (i + 7) (suc n ∷ cs) true (other_line l) (sent w (other_line l) x p) (i + 8) cs (attempts w n (other_line l) x (sent w (other_line l) x p))
        → Comes (i + 2) (suc n ∷ cs) f l p (i + 8) cs (attempts w (suc n) l x p)
    one_attempt n l p f rest =
        next (i + 2) (i + 3) (i + 8) (suc n ∷ cs) (suc n ∷ cs) cs f (asks w Failed p) l l p p _
        (λ k. one (i + 2) (suc n ∷ cs) f l p (op.Test Failed) at_test k ∙ ap (λ v. run w k code (regs is fs v (suc n ∷ cs) (asks w Failed p) l) p) three)
        (decided (asks w Failed p))
      where
        p1 : Point State Outcome
        p1 = sent w (other_line l) x p

        three : i + 2 + 1 ≡ i + 3
        three = omega arith

        four : i + 3 + 1 ≡ i + 4
        four = omega arith

        five : i + 4 + 1 ≡ i + 5
        five = omega arith

        decided : (b : Bool) → Comes (i + 3) (suc n ∷ cs) b l p (i + 8) cs (cond b (attempts w n (other_line l) x (sent w (other_line l) x p)) p)
        decided true =
            next (i + 3) (i + 4) (i + 8) (suc n ∷ cs) (suc n ∷ cs) cs true true l l p p _
            (λ k. one (i + 3) (suc n ∷ cs) true l p (op.JumpFalse (i + 6)) at_jump_false k ∙ ap (λ v. run w k code (regs is fs v (suc n ∷ cs) true l) p) four)
            (next (i + 4) (i + 5) (i + 8) (suc n ∷ cs) (suc n ∷ cs) cs true true l (other_line l) p (sent w (other_line l) x p) _
            (λ k. alt_runs (i + 4) m (suc n ∷ cs) p line x at_alt entry true l k ∙ ap (λ v. run w k code (regs is fs v (suc n ∷ cs) true (other_line l)) (sent w (other_line l) x p)) five)
            (next (i + 5) (i + 7) (i + 8) (suc n ∷ cs) (suc n ∷ cs) cs true true (other_line l) (other_line l) (sent w (other_line l) x p) (sent w (other_line l) x p) _
            (λ k. one (i + 5) (suc n ∷ cs) true (other_line l) (sent w (other_line l) x p) (op.Jump (i + 7)) at_jump k)
            rest))
        decided false =
            next (i + 3) (i + 6) (i + 8) (suc n ∷ cs) (suc n ∷ cs) cs false false l l p p p
            (λ k. one (i + 3) (suc n ∷ cs) false l p (op.JumpFalse (i + 6)) at_jump_false k)
            (next (i + 6) (i + 8) (i + 8) (suc n ∷ cs) cs cs false false l l p p p
            (λ k. one (i + 6) (suc n ∷ cs) false l p (op.Leave (i + 8)) at_leave k)
            (here (i + 8) (i + 8) cs false l p refl))

    attempts_run : (n : ℕ) (l : Line) (p : Point State Outcome) (f : Bool) → Comes (i + 2) (suc n ∷ cs) f l p (i + 8) cs (attempts w (suc n) l x p)
    attempts_run zero l p f = one_attempt zero l p f (turn_ends (sent w (other_line l) x p) true (other_line l))
    attempts_run (suc n) l p f =
        one_attempt (suc n) l p f
        (next (i + 7) (i + 2) (i + 8) (suc (suc n) ∷ cs) (suc n ∷ cs) cs true true (other_line l) (other_line l) (sent w (other_line l) x p) (sent w (other_line l) x p) _
        (again_runs (suc n) (i + 7) (i + 2) cs true (other_line l) (sent w (other_line l) x p) at_again)
        (attempts_run n (other_line l) (sent w (other_line l) x p) true))

  pub retry_runs : (n i m : ℕ) (cs : List ℕ) (line : Line) (x : Message) (p : Point State Outcome) → 1 ≤ n → HasAt code.operations i (retry_shape i m n) → slice_get code.messages m ≡ Some (line, x) → Does i cs p (i + 8) cs (attempts w n line x (sent w line x p))
  retry_runs zero i m cs line x p c has entry f l = absurd (omega arith)
  retry_runs (suc n) i m cs line x p c has entry f l =
      let e : i + 1 + 1 ≡ i + 2 = omega arith in
      next i (i + 1) (i + 8) cs cs cs f f l line p (sent w line x p) _ (send_runs i m cs p line x has.0 entry f l)
      (next (i + 1) (i + 2) (i + 8) cs (suc n ∷ cs) cs f f line line (sent w line x p) (sent w line x p) _
      (λ k. one (i + 1) cs f line (sent w line x p) (op.Loop (suc n)) has.1.0 k ∙ ap (λ v. run w k code (regs is fs v (suc n ∷ cs) f line) (sent w line x p)) e)
      (attempts_run i m (suc n) cs line x has entry n line (sent w line x p) f))

  pub repeat_runs : (n i z : ℕ) (cs : List ℕ) (body : Point State Outcome → Point State Outcome) (p : Point State Outcome) → 1 ≤ n → slice_get code.operations i ≡ Some (op.Loop n) → slice_get code.operations (i + 1 + z) ≡ Some (op.Again (i + 1))
      → ((c : ℕ) (p : Point State Outcome) → Does (i + 1) (c ∷ cs) p (i + 1 + z) (c ∷ cs) (body p)) → Does i cs p (i + (z + 2)) cs (times n body p)
  repeat_runs zero i z cs body p c h g d f l = absurd (omega arith)
  repeat_runs (suc n) i z cs body p c h g d f l =
      let e : i + 1 + z + 1 ≡ i + (z + 2) = omega arith in
      at_end i _ _ cs cs f l p _ e
      (next i (i + 1) _ cs (suc n ∷ cs) cs f f l l p p _ (one i cs f l p (op.Loop (suc n)) h) (loop_runs n (i + 1) (i + 1 + z) cs body g d p f l))

  pub choose_runs : (b : Bool) (i t f e : ℕ) (cs : List ℕ) (p pa pb : Point State Outcome) (j : ℕ) → Does i cs p (cond b t f) cs p → Does t cs p j cs pa → slice_get code.operations j ≡ Some (op.Jump e) → Does f cs p e cs pb → Does i cs p e cs (cond b pa pb)
  choose_runs true i t f e cs p pa pb j dc da h db f0 l =
      both_do i t e cs cs cs f0 l p p pa (dc f0 l)
      (λ f1 l1. both_do t j e cs cs cs f1 l1 p pa pa (da f1 l1) (λ f2 l2. next j e e cs cs cs f2 f2 l2 l2 pa pa pa (one j cs f2 l2 pa (op.Jump e) h) (here e e cs f2 l2 pa refl)))
  choose_runs false i t f e cs p pa pb j dc da h db f0 l = both_do i f e cs cs cs f0 l p p pb (dc f0 l) db

  -- turns until a condition holds: the condition from a, a Leave at l, the body behind it, and the Again at e
  module _ (a l e : ℕ) (cs : List ℕ) (c : Condition) (body : Point State Outcome → Point State Outcome)
      (tests : (ns : List ℕ) (p : Point State Outcome) → Does a ns p (cond (condition_meaning w c p) l (l + 1)) ns p)
      (at_leave : slice_get code.operations l ≡ Some (op.Leave (e + 1))) (at_again : slice_get code.operations e ≡ Some (op.Again a))
      (runs : (n : ℕ) (p : Point State Outcome) → Does (l + 1) (n ∷ cs) p e (n ∷ cs) (body p)) where
    decided : (n : ℕ) → ((q : Point State Outcome) → Does e (suc n ∷ cs) q (e + 1) cs (turns_until w n c body q)) → (p : Point State Outcome)
        → (b : Bool) → Does (cond b l (l + 1)) (suc n ∷ cs) p (e + 1) cs (cond b p (turns_until w n c body (body p)))
    decided n rest p true f l1 =
        next l (e + 1) (e + 1) (suc n ∷ cs) cs cs f f l1 l1 p p p (one l (suc n ∷ cs) f l1 p (op.Leave (e + 1)) at_leave) (here (e + 1) (e + 1) cs f l1 p refl)
    decided n rest p false f l1 = both_do (l + 1) e (e + 1) (suc n ∷ cs) (suc n ∷ cs) cs f l1 p (body p) _ (runs (suc n) p f l1) (rest (body p))

    one_turn : (n : ℕ) → ((q : Point State Outcome) → Does e (suc n ∷ cs) q (e + 1) cs (turns_until w n c body q)) → (p : Point State Outcome) → Does a (suc n ∷ cs) p (e + 1) cs (turns_until w (suc n) c body p)
    one_turn n rest p f l1 =
        both_do a (cond (condition_meaning w c p) l (l + 1)) (e + 1) (suc n ∷ cs) (suc n ∷ cs) cs f l1 p p _ (tests (suc n ∷ cs) p f l1) (decided n rest p (condition_meaning w c p))

    until_turns : (n : ℕ) (p : Point State Outcome) → Does a (suc n ∷ cs) p (e + 1) cs (turns_until w (suc n) c body p)
    until_turns zero p =
        one_turn zero (λ q f l1. next e (e + 1) (e + 1) (1 ∷ cs) cs cs f f l1 l1 q q q (again_runs zero e a cs f l1 q at_again) (here (e + 1) (e + 1) cs f l1 q refl)) p
    until_turns (suc n) p =
        one_turn (suc n) (λ q f l1. next e a (e + 1) (suc (suc n) ∷ cs) (suc n ∷ cs) cs f f l1 l1 q q _ (again_runs (suc n) e a cs f l1 q at_again) (until_turns n q f l1)) p

  pub until_runs : (n i s z : ℕ) (cs : List ℕ) (c : Condition) (body : Point State Outcome → Point State Outcome) (p : Point State Outcome) → 1 ≤ n → slice_get code.operations i ≡ Some (op.Loop n)
      → ((ns : List ℕ) (p : Point State Outcome) → Does (i + 1) ns p (cond (condition_meaning w c p) (i + 1 + s) (i + 1 + s + 1)) ns p)
      → slice_get code.operations (i + 1 + s) ≡ Some (op.Leave (i + 1 + s + z + 2)) → slice_get code.operations (i + 1 + s + 1 + z) ≡ Some (op.Again (i + 1))
      → ((k : ℕ) (p : Point State Outcome) → Does (i + 1 + s + 1) (k ∷ cs) p (i + 1 + s + 1 + z) (k ∷ cs) (body p)) → Does i cs p (i + (s + z + 3)) cs (turns_until w n c body p)
  until_runs zero i s z cs c body p k h tests hl ha d f l = absurd (omega arith)
  until_runs (suc n) i s z cs c body p k h tests hl ha d f l =
      let e : i + 1 + s + 1 + z + 1 ≡ i + (s + z + 3) = omega arith in
      let e' : i + 1 + s + z + 2 ≡ i + 1 + s + 1 + z + 1 = omega arith in
      at_end i _ _ cs cs f l p _ e
      (next i (i + 1) _ cs (suc n ∷ cs) cs f f l l p p _ (one i cs f l p (op.Loop (suc n)) h)
      (until_turns (i + 1) (i + 1 + s) (i + 1 + s + 1 + z) cs c body tests (subst (λ v. slice_get code.operations (i + 1 + s) ≡ Some (op.Leave v)) e' hl) ha d n p f l))
