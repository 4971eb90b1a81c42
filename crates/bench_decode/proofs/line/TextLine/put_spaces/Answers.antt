use Rattle.std.proofs.Common.{◌≡◌, ◌+◌, ℕ, List, take, arith, refl}
use Rattle.std.proofs.lemmas.List.{take-replicate}
use Rattle.bench_decode.specs.Columns.{spaces}
use Rattle.bench_decode.specs.declared.line.TheConstants.{SPACES}
use Rattle.bench_decode.proofs.Drawing.{first-placed, told-placed}
use Rattle.bench_decode.proofs.line.TextLine.put_spaces.Goals as goal

pub returns-clause-put : goal.returns-clause-put
returns-clause-put c =
    let some : take c.args.count SPACES ≡ spaces c.args.count = take-replicate {X = ℕ} c.args.count 64 32 c.requires.few in
    let placed = first-placed _ _ _ _ c.args.count (c.self.inside.len + c.args.count) SPACES c.place_bytes.ensures c.requires.few refl (omega (arith, c.self.invariant.size, c.self.invariant.within, c.as_mut_slice.ensures.len)) in
    told-placed _ _ _ _ _ _ _ _ c.self.inside.shown c.args.self.now c.as_mut_slice.ensures.value (rw some at placed) (omega (arith, c.place_bytes.ensures.size, c.as_mut_slice.ensures.len)) c.self.invariant.begins c.self.view_is
