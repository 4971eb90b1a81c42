-- What hosts of terminals do in a job that is written (own choice).
use Rattle.std.specs.Prelude.{ℕ, Bool, List}
use Rattle.std.specs.List.{list_all}
use Rattle.job_file.specs.HeadLines.{has}
use Rattle.bench_reproduce.specs.declared.deeds.Deed.{Deed}

-- each action is of a terminal with one of these addresses, which the job names
abbrev pub are_of : List ℕ → List Deed → Bool
are_of addresses deeds = list_all (λ (d : Deed). has d.address addresses) deeds
