-- The code of a tree does what the tree means, in any world.
use Rattle.std.proofs.Common.{◌≡◌, ℕ, suc, ◌+◌, Bool, true, false, [], ◌∷◌, ◌++◌, length, Some, refl, sym, ap, subst, arith, append_assoc}
use Rattle.std.specs.Prelude.{slice_get, ◌||◌, if◌then◌else◌}
use Rattle.mil_message.specs.World.{World, Point}
use Rattle.frame_tree.specs.Tree.{Tree, send, retry, gap, repeat, choose, until, timed, nothing, chained, call, define}
use Rattle.frame_tree.specs.Names.{Scope, same_bytes, meant_by, is_known}
use Rattle.frame_tree.specs.Expansion.{expanded}
use Rattle.frame_tree.specs.Meaning.{plain_meaning}
use Rattle.frame_tree.specs.Bounds.{IsInRange, CallsKnown, IsDefined}
use Rattle.frame_code.specs.declared.Op.TheVariants as op
use Rattle.frame_code.specs.Routines.{main_of}
use Rattle.frame_code.specs.Table.{Code, act, start}
use Rattle.frame_asm.proofs.Lengths.{length_shape, length_messages_of}
use Rattle.frame_asm.proofs.Runs.{HasAt, has_front, has_back, has_all, regs, Does}
use Rattle.frame_asm.proofs.Bodies.{Routine, AreThere, tree_runs}
use Rattle.frame_asm.proofs.Starts.{starts, starts_of, Stands, stands_first, stands_next, routine_there, main_there}
use Rattle.frame_asm.specs.Behaves.{Behaves}
use Rattle.frame_asm.specs.Shapes.{size, tree_messages, entries, shape, code_of_tree}

module _ {State Outcome : Type 0} (w : World State Outcome) (code : Code) where
  -- main comes to a Halt, where the tree leads
  record Ends (t : Tree) (p : Point State Outcome) : Type 0 where
    place : ℕ
    does : Does w code [] [] (main_of code.operations) [] p place [] (plain_meaning w t p)
    halt : slice_get code.operations place ≡ Some op.Halt

  none_there : AreThere w code [] []
  none_there n k = absurd (cc)

  picked : (b known : Bool) (k k' : ℕ) (e e' : Tree) → (b || known) ≡ true → Routine w code k e → (known ≡ true → Routine w code k' e') → Routine w code (if b then k else k') (if b then e else e')
  picked true known k k' e e' h one others = one
  picked false known k k' e e' h one others = others h

  main_runs : (rs : Scope ℕ) (ds : Scope Tree) (t : Tree) (i m : ℕ) (p : Point State Outcome) → starts i t ≡ [] → CallsKnown rs t → IsInRange t → HasAt code.operations i (shape rs i m t ++ op.Halt ∷ []) → HasAt code.messages m (tree_messages t)
      → Stands code.operations (length rs) i t → AreThere w code rs ds → Ends (expanded ds t) p
  main_runs rs ds t i m p none k c h g s there =
      let main : i ≡ main_of code.operations = sym (main_there code.operations (length rs) i t none s) in
      let does = tree_runs w code rs ds there t i m [] [] [] p c k (has_front code.operations i (shape rs i m t) (op.Halt ∷ []) h) g in
      record {
        place = i + size t;
        does = subst (λ v. Does w code [] [] v [] p (i + size t) [] (plain_meaning w (expanded ds t) p)) main does;
        halt = (has_back code.operations i (i + size t) (shape rs i m t) (op.Halt ∷ []) (ap (λ z. i + z) (length_shape t rs i m)) h).0;
      }

  all_runs : (rs : Scope ℕ) (ds : Scope Tree) (t : Tree) (i m : ℕ) (p : Point State Outcome) → IsDefined rs t → IsInRange t → HasAt code.operations i (shape rs i m t ++ op.Halt ∷ []) → HasAt code.messages m (tree_messages t)
      → Stands code.operations (length rs) i t → AreThere w code rs ds → Ends (expanded ds t) p
  all_runs rs ds (send l x) i m p k c h g s there = main_runs rs ds (send l x) i m p refl k c h g s there
  all_runs rs ds (retry n l x) i m p k c h g s there = main_runs rs ds (retry n l x) i m p refl k c h g s there
  all_runs rs ds (gap t) i m p k c h g s there = main_runs rs ds (gap t) i m p refl k c h g s there
  all_runs rs ds (repeat n b) i m p k c h g s there = main_runs rs ds (repeat n b) i m p refl k c h g s there
  all_runs rs ds (choose v a b) i m p k c h g s there = main_runs rs ds (choose v a b) i m p refl k c h g s there
  all_runs rs ds (until v n b) i m p k c h g s there = main_runs rs ds (until v n b) i m p refl k c h g s there
  all_runs rs ds (timed n b) i m p k c h g s there = main_runs rs ds (timed n b) i m p refl k c h g s there
  all_runs rs ds nothing i m p k c h g s there = main_runs rs ds nothing i m p refl k c h g s there
  all_runs rs ds (chained a b) i m p k c h g s there = main_runs rs ds (chained a b) i m p refl k c h g s there
  all_runs rs ds (call n) i m p k c h g s there = main_runs rs ds (call n) i m p refl k c h g s there
  all_runs rs ds (define n b r) i m p k c h g s there =
      let os = code.operations in
      let inner = (n, length rs) ∷ rs in
      let body = expanded ds b in
      let j = i + size b + 1 in
      let rest = shape inner j (m + entries b) r in
      let one : suc (i + size b) ≡ j = omega arith in
      let h' = subst (HasAt os i) (append_assoc (shape rs i m b) (op.Return ∷ rest) (op.Halt ∷ [])) h in
      let hb = has_front os i (shape rs i m b) (op.Return ∷ (rest ++ op.Halt ∷ [])) h' in
      let hr = has_back os i (i + size b) (shape rs i m b) (op.Return ∷ (rest ++ op.Halt ∷ [])) (ap (λ z. i + z) (length_shape b rs i m)) h' in
      let gb = has_front code.messages m (tree_messages b) (tree_messages r) g in
      let gr = has_back code.messages m (m + entries b) (tree_messages b) (tree_messages r) (ap (λ z. m + z) (length_messages_of b)) g in
      let routine : Routine w code (length rs) body = record {
        begins = i;
        ends = i + size b;
        at = routine_there os (length rs) i n b r s;
        back = hr.0;
        does = λ is fs cs v. tree_runs w code rs ds there b i m is fs cs v c.0 k.2 hb gb;
      } in
      all_runs inner ((n, body) ∷ ds) r j (m + entries b) p k.3 c.1 hr.1 gr (stands_next os (length rs) i j n b r one s)
      (λ x e. picked (same_bytes n x) (is_known rs x) (length rs) (meant_by 0 rs x) body (meant_by nothing ds x) e routine (there x))

pub behaves : {State Outcome : Type 0} (w : World State Outcome) (t : Tree) (p : Point State Outcome) → IsInRange t → IsDefined [] t → Behaves w t (code_of_tree t) p
behaves w t p c k =
    let code = code_of_tree t in
    let r = all_runs w code [] [] t 0 0 p k c (has_all (code.operations) []) (has_all (tree_messages t) []) (stands_first code.operations t (starts_of [] t 0 0 k)) (none_there w code) in
    let d = r.does false (start code).line in
    let a = d.by 0 in
    let last = regs [] [] r.place [] d.flag d.line in
    record {
      steps = a.0;
      last = last;
      comes = a.1;
      halts = ap (λ o. act w o code last (plain_meaning w (expanded [] t) p)) r.halt;
    }
