use Rattle.std.proofs.Common.{◌≡◌, ℕ, ◌+◌, ◌<◌, ◌≤◌, slice_get, Some}
use Rattle.bench_core.specs.Bench.{ChannelState}
use Rattle.bench_core.specs.Channels.{posts_of}
use Rattle.bench_core.specs.World.{posts_for}
use Rattle.bench_core.proofs.stepping.are_few_posts.Given as goal

-- the channels so far have few posts
abbrev pub invariant-loop-index : goal.invariant-loop-index
invariant-loop-index l = (k : ℕ) (one : ChannelState) → k < l.index → slice_get l.channels k ≡ Some one → posts_of one + posts_for k l.steps ≤ l.most
