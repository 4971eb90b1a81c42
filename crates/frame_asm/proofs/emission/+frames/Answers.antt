use Rattle.std.proofs.Common.{◌≡◌, ◌+◌, ◌<◌, ◌++◌, length, subst, map, sym, ap, ◌∙◌, arith, rules}
use Rattle.std.proofs.lemmas.List.{take_all}
use Rattle.std.proofs.lemmas.Result.{on_ok_weaker}
use Rattle.frame_tree.specs.Tree.{repeat, choose, until, chain, condition_in, tree_of}
use Rattle.frame_tree.specs.Scopes.{scope_of}
use Rattle.frame_tree.specs.Bounds.{CallsKnown}
use Rattle.frame_tree.specs.declared.Frame.{the_lemmas}
use Rattle.frame_tree.proofs.Trees.{tree_repeat, tree_if, tree_until}
use Rattle.frame_asm.specs.Shapes.{branch_size, size, entries, shape, tree_messages}
use Rattle.frame_asm.proofs.Chains.{front}
use Rattle.frame_asm.proofs.Frames.{length_put, length_branched, length_fronted, length_grown, length_entered, repeat_done, until_done, choose_done, messages_done, known_in, calls_at, room_at, table_at, front_done, front_entered}
use Rattle.frame_asm.proofs.emission.+frames.Goals as goal

pub emit-open_if-requires : goal.emit-open_if-requires
emit-open_if-requires g t c =
    let is : tree_of c.args.frame.now ≡ choose (condition_in c.in-If.condition) (tree_of c.in-If.then.value) (tree_of c.in-If.otherwise.value) = ap tree_of c.in-If.is ∙ tree_if c.in-If.condition c.in-If.then c.in-If.otherwise in
    omega (arith, c.requires.room, ap size is, ap (λ f. size (tree_of f)) c.deref-in-If.ensures, ap (λ f. size (tree_of f)) c.deref-in-If-2.ensures)

pub emit-open_until-requires : goal.emit-open_until-requires
emit-open_until-requires g t c =
    let is : tree_of c.args.frame.now ≡ until (condition_in c.in-Until.condition) c.in-Until.count (tree_of c.in-Until.body.value) = ap tree_of c.in-Until.is ∙ tree_until c.in-Until.condition c.in-Until.count c.in-Until.body in
    omega (arith, c.requires.room, ap size is, ap (λ f. size (tree_of f)) c.deref-in-Until.ensures)

pub emit-emit-requires-in-If : goal.emit-emit-requires-in-If
emit-emit-requires-in-If g t c κs within =
    let is : tree_of c.args.frame.now ≡ choose (condition_in c.in-If.condition) (tree_of c.in-If.then.value) (tree_of c.in-If.otherwise.value) = ap tree_of c.in-If.is ∙ tree_if c.in-If.condition c.in-If.then c.in-If.otherwise in
    let now : tree_of c.deref-in-If-3.result.now ≡ tree_of c.in-If.then.value = ap tree_of c.deref-in-If-3.ensures in
    let grown = length_branched (condition_in c.in-If.condition) c.args.operations.now.items c.open_if.new.operations.items _ _ _ c.in_ok-end-in-If.ensures.operations in
    (search (rules, the_lemmas), (search rules, (omega (arith, c.requires.room, ap size is, ap size now, grown), (omega (arith, c.requires.table, ap entries is, ap entries now), (known_in (scope_of c.args.scope.now) _ _ _ _ is now c.requires.calls (λ x. x.0), c.requires.routines)))))

pub emit-emit-requires-in-If-2 : goal.emit-emit-requires-in-If-2
emit-emit-requires-in-If-2 g t c κs within =
    let is : tree_of c.args.frame.now ≡ choose (condition_in c.in-If.condition) (tree_of c.in-If.then.value) (tree_of c.in-If.otherwise.value) = ap tree_of c.in-If.is ∙ tree_if c.in-If.condition c.in-If.then c.in-If.otherwise in
    let before : tree_of c.deref-in-If-3.result.now ≡ tree_of c.in-If.then.value = ap tree_of c.deref-in-If-3.ensures in
    let now : tree_of c.deref-in-If-4.result.now ≡ tree_of c.in-If.otherwise.value = ap tree_of c.deref-in-If-4.ensures in
    let one = length_branched (condition_in c.in-If.condition) c.args.operations.now.items c.open_if.new.operations.items _ _ _ c.in_ok-end-in-If.ensures.operations in
    let two = length_grown (scope_of c.args.scope.now) (tree_of c.deref-in-If-3.result.now) c.open_if.new.operations.items c.emit-in-If.new.operations.items _ _ c.in_ok-emit-in-If.ensures.operations in
    let three = length_put c.emit-in-If.new.operations.items c.put-in-If.new.operations.items _ c.in_ok-put-in-If.ensures in
    let four = length_entered (tree_of c.deref-in-If-3.result.now) c.args.messages.now.items c.emit-in-If.new.messages.items c.in_ok-emit-in-If.ensures.messages in
    (search (rules, the_lemmas), (search rules, (omega (arith, c.requires.room, ap size is, ap size now, ap size before, one, two, three), (omega (arith, c.requires.table, ap entries is, ap entries now, ap entries before, four), (known_in (scope_of c.args.scope.now) _ _ _ _ is now c.requires.calls (λ x. x.1), c.requires.routines)))))

pub emit-emit-requires-in-Until : goal.emit-emit-requires-in-Until
emit-emit-requires-in-Until g t c κs within =
    let is : tree_of c.args.frame.now ≡ until (condition_in c.in-Until.condition) c.in-Until.count (tree_of c.in-Until.body.value) = ap tree_of c.in-Until.is ∙ tree_until c.in-Until.condition c.in-Until.count c.in-Until.body in
    let now : tree_of c.deref-in-Until-2.result.now ≡ tree_of c.in-Until.body.value = ap tree_of c.deref-in-Until-2.ensures in
    let one = length_fronted (condition_in c.in-Until.condition) c.in-Until.count c.args.operations.now.items c.open_until.new.operations.items _ _ c.in_ok-turn-in-Until.ensures.operations in
    (search (rules, the_lemmas), (search rules, (omega (arith, c.requires.room, ap size is, ap size now, one), (omega (arith, c.requires.table, ap entries is, ap entries now), (known_in (scope_of c.args.scope.now) _ _ _ _ is now c.requires.calls (λ x. x), c.requires.routines)))))

pub emit-returns-in_ok-emit-in-Repeat-clause-operations : goal.emit-returns-in_ok-emit-in-Repeat-clause-operations
emit-returns-in_ok-emit-in-Repeat-clause-operations g t c =
    let is : tree_of c.args.frame.now ≡ repeat c.in-Repeat.count (tree_of c.in-Repeat.body.value) = ap tree_of c.in-Repeat.is ∙ tree_repeat c.in-Repeat.count c.in-Repeat.body in
    on_ok_weaker _ (repeat_done (scope_of c.args.scope.now) _ _ _ c.in-Repeat.count c.args.operations.now.items c.put-in-Repeat.new.operations.items c.emit.new.operations.items _ _ _ is (ap tree_of c.deref.ensures) (omega (arith, c.len.ensures, c.args.operations.now.ok.0)) c.in_ok-put-in-Repeat.ensures c.in_ok-emit-in-Repeat.ensures.operations) c.put-in-Repeat-2.ensures

pub emit-returns-in_ok-emit-in-Until-clause-operations : goal.emit-returns-in_ok-emit-in-Until-clause-operations
emit-returns-in_ok-emit-in-Until-clause-operations g t c =
    let b = tree_of c.in-Until.body.value in
    let k = condition_in c.in-Until.condition in
    let is : tree_of c.args.frame.now ≡ until k c.in-Until.count b = ap tree_of c.in-Until.is ∙ tree_until c.in-Until.condition c.in-Until.count c.in-Until.body in
    let counted : size (tree_of c.deref-in-Until.result.now) ≡ size b = ap (λ f. size (tree_of f)) c.deref-in-Until.ensures in
    on_ok_weaker _ (until_done (scope_of c.args.scope.now) _ b _ k c.in-Until.count c.args.operations.now.items c.open_until.new.operations.items c.emit-in-Until.new.operations.items _ _ _ _ is (ap tree_of c.deref-in-Until-2.ensures) counted c.in_ok-turn-in-Until.ensures.turn c.in_ok-turn-in-Until.ensures.operations c.in_ok-emit-in-Until.ensures.operations) c.put-in-Until.ensures

pub emit-returns-in_ok-put-in-If-clause-operations : goal.emit-returns-in_ok-put-in-If-clause-operations
emit-returns-in_ok-put-in-If-clause-operations g t c =
    let a = tree_of c.in-If.then.value in
    let b = tree_of c.in-If.otherwise.value in
    let k = condition_in c.in-If.condition in
    let is : tree_of c.args.frame.now ≡ choose k a b = ap tree_of c.in-If.is ∙ tree_if c.in-If.condition c.in-If.then c.in-If.otherwise in
    let counted : size (tree_of c.deref-in-If.result.now) ≡ size a = ap (λ f. size (tree_of f)) c.deref-in-If.ensures in
    let counted' : size (tree_of c.deref-in-If-2.result.now) ≡ size b = ap (λ f. size (tree_of f)) c.deref-in-If-2.ensures in
    let first = length c.args.operations.now.items + branch_size k in
    let second = first + size (tree_of c.deref-in-If.result.now) + 1 in
    let end : c.in_ok-end-in-If.end ≡ second + size b = c.in_ok-end-in-If.ensures.end ∙ ap (λ n. second + n) counted' in
    on_ok_weaker _ (choose_done (scope_of c.args.scope.now) _ a _ b _ k k c.args.operations.now.items c.open_if.new.operations.items c.emit-in-If.new.operations.items c.put-in-If.new.operations.items _ c.args.messages.now.items c.emit-in-If.new.messages.items first second _ is (λ i. k) (ap tree_of c.deref-in-If-3.ensures) (ap tree_of c.deref-in-If-4.ensures) (λ i. first) (ap (λ n. first + n + 1) counted) end c.in_ok-end-in-If.ensures.operations c.in_ok-emit-in-If.ensures.operations c.in_ok-emit-in-If.ensures.messages c.in_ok-put-in-If.ensures) c.emit-in-If-2.ensures.operations

pub emit-returns-in_ok-put-in-If-clause-messages : goal.emit-returns-in_ok-put-in-If-clause-messages
emit-returns-in_ok-put-in-If-clause-messages g t c =
    let is : tree_of c.args.frame.now ≡ choose (condition_in c.in-If.condition) (tree_of c.in-If.then.value) (tree_of c.in-If.otherwise.value) = ap tree_of c.in-If.is ∙ tree_if c.in-If.condition c.in-If.then c.in-If.otherwise in
    on_ok_weaker _ (messages_done _ _ _ _ _ (condition_in c.in-If.condition) c.args.messages.now.items c.emit-in-If.new.messages.items _ is (ap tree_of c.deref-in-If-3.ensures) (ap tree_of c.deref-in-If-4.ensures) c.in_ok-emit-in-If.ensures.messages) c.emit-in-If-2.ensures.messages

pub emit_sequence-emit-requires : goal.emit_sequence-emit-requires
emit_sequence-emit-requires g t c κs within =
    let fs = c.deref-frame-items.result.now in
    let i = c.loop-frame.frame-index in
    let f = c.frame-item.result in
    let h : i < length fs = omega arith in
    let is : chain (map tree_of c.args.frames.now.items) ≡ chain (map tree_of fs) = ap (λ xs. chain (map tree_of xs)) (sym c.deref-frame-items.ensures.value) in
    let one = length_grown (scope_of c.args.scope.now) (front i fs) c.args.operations.now.items c.loop-frame.operations.items _ _ c.loop-frame.invariant.operations in
    let two = length_entered (front i fs) c.args.messages.now.items c.loop-frame.messages.items c.loop-frame.invariant.messages in
    (grind (the_lemmas, arith) steps 60000000, (search rules, (omega (arith, c.requires.room, ap size is, room_at fs i f h c.frame-item.is, one), (omega (arith, c.requires.table, ap entries is, table_at fs i f h c.frame-item.is, two), (calls_at (scope_of c.args.scope.now) fs i f h c.frame-item.is (subst (CallsKnown (scope_of c.args.scope.now)) is c.requires.calls), c.requires.routines)))))

pub emit_sequence-loop-frame-preserved : goal.emit_sequence-loop-frame-preserved
emit_sequence-loop-frame-preserved g t c =
    let fs = c.deref-frame-items.result.now in
    let i = c.loop-frame.frame-index in
    let h : i < length fs = omega arith in
    record {
      operations = front_done (scope_of c.args.scope.now) fs i c.frame-item.result h c.frame-item.is c.args.operations.now.items c.loop-frame.operations.items c.emit.new.operations.items c.args.messages.now.items c.loop-frame.messages.items c.loop-frame.invariant.operations c.loop-frame.invariant.messages c.in_ok-emit.ensures.operations;
      messages = front_entered fs i c.frame-item.result h c.frame-item.is c.args.messages.now.items c.loop-frame.messages.items c.emit.new.messages.items c.loop-frame.invariant.messages c.in_ok-emit.ensures.messages;
    }

pub emit_sequence-returns-clause-operations : goal.emit_sequence-returns-clause-operations
emit_sequence-returns-clause-operations g t c =
    let all = take_all c.loop-frame.frame-index c.deref-frame-items.result.now (omega arith) ∙ c.deref-frame-items.ensures.value in
    c.loop-frame.invariant.operations ∙ ap (λ xs. c.args.operations.now.items ++ shape (scope_of c.args.scope.now) (length c.args.operations.now.items) (length c.args.messages.now.items) (chain (map tree_of xs))) all

pub emit_sequence-returns-clause-messages : goal.emit_sequence-returns-clause-messages
emit_sequence-returns-clause-messages g t c =
    let all = take_all c.loop-frame.frame-index c.deref-frame-items.result.now (omega arith) ∙ c.deref-frame-items.ensures.value in
    c.loop-frame.invariant.messages ∙ ap (λ xs. c.args.messages.now.items ++ tree_messages (chain (map tree_of xs))) all
