use Rattle.std.proofs.Common.{[], refl, subst, arith}
use Rattle.job_moments.specs.Chunks.{StartsEmpty}
use Rattle.job_moments.proofs.Chunking.{drops_first, some_there}
use Rattle.job_moments.proofs.chunks.drop_empty.Goals as goal

pub remove-requires : goal.remove-requires
remove-requires g c =
    let chunks = c.args.chunks.now in
    let there = some_there chunks.items (subst (λ cs. StartsEmpty cs) c.deref.ensures.value (c.starts_empty.ensures c.if-starts_empty.true)) in
    omega (arith, chunks.ok.0, there)

pub returns-then-starts_empty : goal.returns-then-starts_empty
returns-then-starts_empty g c =
    drops_first c.args.chunks.now.items c.remove.new.self.items (subst (λ cs. StartsEmpty cs) c.deref.ensures.value (c.starts_empty.ensures c.if-starts_empty.true)) c.remove.ensures.items

pub returns-else-starts_empty : goal.returns-else-starts_empty
returns-else-starts_empty g c = record { front = []; old_is = refl; none = refl }
