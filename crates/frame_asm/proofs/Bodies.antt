-- What a frame without definitions does, where each name in scope is that of a routine that does what stands for the name.
use Rattle.std.proofs.Common.{◌≡◌, ℕ, suc, ◌+◌, ◌*◌, true, List, [], ◌∷◌, ◌++◌, Some, refl, ap, ◌∙◌, arith}
use Rattle.std.specs.Prelude.{slice_get}
use Rattle.mil_message.specs.World.{World, Point, now_at, paced_to}
use Rattle.frame_tree.specs.Tree.{Tree, send, retry, gap, repeat, choose, until, timed, nothing, chained, call, define}
use Rattle.frame_tree.specs.Names.{Scope, meant_by, is_known}
use Rattle.frame_tree.specs.Expansion.{expanded}
use Rattle.frame_tree.specs.Meaning.{condition_meaning, held, plain_meaning}
use Rattle.frame_tree.specs.Bounds.{IsInRange, CallsKnown}
use Rattle.frame_code.specs.declared.Op.TheVariants as op
use Rattle.frame_code.specs.Routines.{routine_at}
use Rattle.frame_code.specs.Table.{Code, calls, then_run, run}
use Rattle.frame_asm.proofs.Lengths.{length_branch, length_shape, length_messages_of}
use Rattle.frame_asm.proofs.Runs.{HasAt, has_front, has_back, regs, one, next, here, both_do, at_end, send_runs, branch_runs, retry_runs, repeat_runs, choose_runs, until_runs, Does}
use Rattle.frame_asm.specs.Shapes.{branch_size, branch, size, tree_messages, entries, shape}

module _ {State Outcome : Type 0} (w : World State Outcome) (code : Code) where
  -- the routine of this number does what the tree means, wherever it is called from
  pub record Routine (r : ℕ) (t : Tree) : Type 0 where
    pub begins : ℕ
    pub ends : ℕ
    pub at : routine_at code.operations r ≡ Some begins
    pub back : slice_get code.operations ends ≡ Some op.Return
    pub does : (is fs cs : List ℕ) (p : Point State Outcome) → Does w code is fs begins cs p ends cs (plain_meaning w t p)

  call_runs : (r i : ℕ) (t : Tree) (is fs cs : List ℕ) (p : Point State Outcome) → Routine r t → slice_get code.operations i ≡ Some (op.Call r) → Does w code is fs i cs p (i + 1) cs (plain_meaning w t p)
  call_runs r i t is fs cs p c h f l =
      let back = (i + 1) ∷ is in
      let after = plain_meaning w t p in
      let d = c.does back fs cs p f l in
      let into : (k : ℕ) → run w (suc k) code (regs is fs i cs f l) p ≡ run w k code (regs back fs c.begins cs f l) p =
      λ k. one w code is fs i cs f l p (op.Call r) h k ∙ ap (λ v. then_run w (calls w v (regs is fs i cs f l) p) (record { at = regs is fs i cs f l; point = p }) (run w k code)) c.at in
      let out : (k : ℕ) → run w (suc k) code (regs back fs c.ends cs d.flag d.line) after ≡ run w k code (regs is fs (i + 1) cs d.flag d.line) after = λ k. one w code back fs c.ends cs d.flag d.line after op.Return c.back k in
      record { flag = d.flag; line = d.line; by = λ k. let a = d.by (suc k) in (suc a.0, into a.0 ∙ a.1 ∙ out k) }

  -- a body from behind a Begin to a Pace, with the tick at which it began on the list of open frames
  timed_runs : (n i z : ℕ) (is fs cs : List ℕ) (body : Point State Outcome → Point State Outcome) (p : Point State Outcome) → slice_get code.operations i ≡ Some op.Begin → slice_get code.operations (i + 1 + z) ≡ Some (op.Pace n)
      → Does w code is (now_at w p ∷ fs) (i + 1) cs p (i + 1 + z) cs (body p) → Does w code is fs i cs p (i + (z + 2)) cs (held w n body p)
  timed_runs n i z is fs cs body p h g d f l =
      let inner = now_at w p ∷ fs in
      let e : i + 1 + z + 1 ≡ i + (z + 2) = omega arith in
      let c = d f l in
      let into : (k : ℕ) → run w (suc k) code (regs is fs i cs f l) p ≡ run w k code (regs is inner (i + 1) cs f l) p = λ k. one w code is fs i cs f l p op.Begin h k in
      let out : (k : ℕ) → run w (suc k) code (regs is inner (i + 1 + z) cs c.flag c.line) (body p) ≡ run w k code (regs is fs (i + 1 + z + 1) cs c.flag c.line) (paced_to w (now_at w p + 1000 * n) (body p)) =
      λ k. one w code is inner (i + 1 + z) cs c.flag c.line (body p) (op.Pace n) g k in
      at_end w code is fs i _ _ cs cs f l p _ e (record { flag = c.flag; line = c.line; by = λ k. let a = c.by (suc k) in (suc a.0, into a.0 ∙ a.1 ∙ out k) })

  -- each name in scope is that of such a routine
  abbrev pub AreThere : Scope ℕ → Scope Tree → Type 0
  AreThere rs ds = (n : List ℕ) → is_known rs n ≡ true → Routine (meant_by 0 rs n) (meant_by nothing ds n)

  module _ (rs : Scope ℕ) (ds : Scope Tree) (there : AreThere rs ds) where
    pub tree_runs : (t : Tree) (i m : ℕ) (is fs cs : List ℕ) (p : Point State Outcome) → IsInRange t → CallsKnown rs t → HasAt code.operations i (shape rs i m t) → HasAt code.messages m (tree_messages t)
        → Does w code is fs i cs p (i + size t) cs (plain_meaning w (expanded ds t) p)
    tree_runs (send l x) i m is fs cs p c q h g f l0 =
        next w code is fs i (i + 1) (i + 1) cs cs cs f f l0 l p _ _ (send_runs w code is fs i m cs p l x h.0 g.0 f l0) (here w code is fs (i + 1) (i + 1) cs f l _ refl)
    tree_runs (retry n l x) i m is fs cs p c q h g f l0 = retry_runs w code is fs n i m cs l x p c.0 h g.0 f l0
    tree_runs (gap t) i m is fs cs p c q h g f l0 =
        next w code is fs i (i + 1) (i + 1) cs cs cs f f l0 l0 p (record p { gap = t }) _ (one w code is fs i cs f l0 p (op.SetGap t) h.0) (here w code is fs (i + 1) (i + 1) cs f l0 _ refl)
    tree_runs (repeat n b) i m is fs cs p c q h g f l0 =
        repeat_runs w code is fs n i (size b) cs (plain_meaning w (expanded ds b)) p c.0 h.0
        (has_back code.operations (i + 1) (i + 1 + size b) (shape rs (i + 1) m b) _ (ap (λ z. i + 1 + z) (length_shape b rs (i + 1) m)) h.1).0
        (λ k v. tree_runs b (i + 1) m is fs (k ∷ cs) v c.2 q (has_front code.operations (i + 1) (shape rs (i + 1) m b) _ h.1) g) f l0
    tree_runs (choose c a b) i m is fs cs p n q h g f0 l0 =
        let t = i + branch_size c in
        let f = t + size a + 1 in
        let rest = op.Jump (f + size b) ∷ shape rs f (m + entries a) b in
        let ht = has_back code.operations i t (branch i c t f) (shape rs t m a ++ rest) (ap (λ z. i + z) (length_branch c i t f)) h in
        let hr = has_back code.operations t (t + size a) (shape rs t m a) rest (ap (λ z. t + z) (length_shape a rs t m)) ht in
        let e : f + size b ≡ i + (branch_size c + size a + 1 + size b) = omega arith in
        at_end w code is fs i _ _ cs cs f0 l0 p _ e
        (choose_runs w code is fs (condition_meaning w c p) i t f (f + size b) cs p (plain_meaning w (expanded ds a) p) (plain_meaning w (expanded ds b) p) (t + size a)
        (branch_runs w code is fs c i t f cs p (has_front code.operations i (branch i c t f) _ h))
        (tree_runs a t m is fs cs p n.1 q.0 (has_front code.operations t (shape rs t m a) rest ht) (has_front code.messages m (tree_messages a) (tree_messages b) g))
        hr.0
        (tree_runs b f (m + entries a) is fs cs p n.2 q.1 hr.1 (has_back code.messages m (m + entries a) (tree_messages a) (tree_messages b) (ap (λ z. m + z) (length_messages_of a)) g))
        f0 l0)
    tree_runs (until c n b) i m is fs cs p s q h g f l0 =
        let l = i + 1 + branch_size c in
        let test = branch (i + 1) c l (l + 1) in
        let body = shape rs (l + 1) m b in
        let back = op.Again (i + 1) ∷ [] in
        let rest = op.Leave (l + size b + 2) ∷ (body ++ back) in
        let hr = has_back code.operations (i + 1) l test rest (ap (λ z. i + 1 + z) (length_branch c (i + 1) l (l + 1))) h.1 in
        until_runs w code is fs n i (branch_size c) (size b) cs c (plain_meaning w (expanded ds b)) p s.1 h.0
        (λ ns v. branch_runs w code is fs c (i + 1) l (l + 1) ns v (has_front code.operations (i + 1) test rest h.1))
        hr.0
        (has_back code.operations (l + 1) (l + 1 + size b) body back (ap (λ z. l + 1 + z) (length_shape b rs (l + 1) m)) hr.1).0
        (λ k v. tree_runs b (l + 1) m is fs (k ∷ cs) v s.3 q (has_front code.operations (l + 1) body back hr.1) g)
        f l0
    tree_runs (timed n b) i m is fs cs p c q h g f l0 =
        timed_runs n i (size b) is fs cs (plain_meaning w (expanded ds b)) p h.0
        (has_back code.operations (i + 1) (i + 1 + size b) (shape rs (i + 1) m b) _ (ap (λ z. i + 1 + z) (length_shape b rs (i + 1) m)) h.1).0
        (tree_runs b (i + 1) m is (now_at w p ∷ fs) cs p c.2 q (has_front code.operations (i + 1) (shape rs (i + 1) m b) _ h.1) g) f l0
    tree_runs nothing i m is fs cs p c q h g f l0 = let e : i ≡ i + 0 = omega arith in here w code is fs i (i + 0) cs f l0 p e
    tree_runs (chained a b) i m is fs cs p c q h g f l0 =
        let e : i + size a + size b ≡ i + (size a + size b) = omega arith in
        at_end w code is fs i _ _ cs cs f l0 p _ e
        (both_do w code is fs i (i + size a) (i + size a + size b) cs cs cs f l0 p _ _
        (tree_runs a i m is fs cs p c.0 q.0 (has_front code.operations i (shape rs i m a) _ h) (has_front code.messages m (tree_messages a) (tree_messages b) g) f l0)
        (tree_runs b (i + size a) (m + entries a) is fs cs _ c.1 q.1 (has_back code.operations i (i + size a) (shape rs i m a) _ (ap (λ z. i + z) (length_shape a rs i m)) h) (has_back code.messages m (m + entries a) (tree_messages a) (tree_messages b) (ap (λ z. m + z) (length_messages_of a)) g)))
    tree_runs (call n) i m is fs cs p c q h g f l0 = call_runs (meant_by 0 rs n) i (meant_by nothing ds n) is fs cs p (there n q) h.0 f l0
    tree_runs (define n b r) i m is fs cs p c q h g f l0 = absurd q
