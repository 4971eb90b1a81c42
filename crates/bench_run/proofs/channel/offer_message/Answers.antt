use Rattle.std.proofs.Common.{rules, arith, ap, sym, ◌∙◌, ◌≡◌, ◌+◌, ◌-◌, ◌++◌, ◌∷◌, [], length, vec_len, subst}
use Rattle.mil_trunk.specs.Ends.{tags_of, bounds_of, sent}
use Rattle.bench_run.specs.declared.entry.Entry.TheVariants as entry
use Rattle.bench_run.specs.Threads.{RecordsOfferedSoFar}
use Rattle.bench_run.proofs.Stages.{kept_stage, refused_stage, few_of_tag, few_refused}
use Rattle.bench_run.proofs.channel.offer_message.Goals as goal

pub offer-requires-clause-bound : goal.offer-requires-clause-bound
offer-requires-clause-bound g c =
    let few = few_of_tag c.args.context.now.trunk.now (tags_of c.args.ticket.now) (bounds_of c.args.ticket.now) c.args.index c.requires.so_far.0 (c.args.number - 1) c.args.ticket.now c.args.refused.now.items c.requires.so_far.1 in
    omega (arith, few, c.requires.bound, c.requires.number)

pub push_reserved-requires : goal.push_reserved-requires
push_reserved-requires g c =
    let few = few_refused c.args.context.now.trunk.now (tags_of c.args.ticket.now) (bounds_of c.args.ticket.now) c.args.index c.requires.so_far.0 (c.args.number - 1) c.args.ticket.now c.args.refused.now.items c.requires.so_far.1 in
    let long : length c.args.refused.now.items ≡ vec_len c.args.refused.now = search rules in
    omega (arith, few, long, c.requires.room, c.requires.number)

pub returns-in-Ok-clause-so_far : goal.returns-in-Ok-clause-so_far
returns-in-Ok-clause-so_far g c live st at =
    let t = c.args.ticket.now in
    let s = c.offer.new.ticket in
    let before = c.args.number - 1 in
    let is : before + 1 ≡ c.args.number = omega (arith, c.requires.number) in
    let more : sent s ≡ sent t ++ entry.Message c.args.index (before + 1) c.args.message ∷ [] = c.in-Ok.ensures.kept ∙ ap (λ n. sent t ++ entry.Message c.args.index n c.args.message ∷ []) (sym is) in
    let next = kept_stage c.args.context.now.trunk.now (tags_of t) (bounds_of t) c.args.index live before t s c.args.refused.now.items c.args.message st at c.requires.recorded
    c.offer.ensures.ticket c.offer.ensures.tags c.offer.ensures.bounds more in
    subst (λ n. RecordsOfferedSoFar c.args.context.now.trunk.now (tags_of t) (bounds_of t) c.args.index live n s c.args.refused.now.items) is next

pub returns-in-Err-clause-so_far : goal.returns-in-Err-clause-so_far
returns-in-Err-clause-so_far g c live st at =
    let t = c.args.ticket.now in
    let s = c.offer.new.ticket in
    let before = c.args.number - 1 in
    let is : before + 1 ≡ c.args.number = omega (arith, c.requires.number) in
    let next = refused_stage c.args.context.now.trunk.now (tags_of t) (bounds_of t) c.args.index live before t s c.args.refused.now.items c.args.message st at c.requires.recorded
    c.offer.ensures.ticket c.offer.ensures.tags c.offer.ensures.bounds c.in-Err.ensures.not_sent c.in-Err.ensures.full in
    rw c.push_reserved.ensures.items (subst (λ n. RecordsOfferedSoFar c.args.context.now.trunk.now (tags_of t) (bounds_of t) c.args.index live n s (c.args.refused.now.items ++ n ∷ [])) is next)
