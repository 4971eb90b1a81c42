-- The letters of a refusal (own choice); a fault of the text has its place besides, of which nothing is said here.
use Rattle.std.specs.Prelude.{ℕ, List, Option, Some, None, codes}
use Rattle.bench_assemble.specs.declared.fault.AssembleFault.{AssembleFault}
use Rattle.bench_assemble.specs.declared.fault.AssembleFault.TheVariants.{Text, Operations, Messages, Budget, Periods}
use Rattle.bench_assemble.specs.declared.fault.AssembleFault.TheVariants.{Memory}

abbrev pub letters_of : AssembleFault → Option (List ℕ)
letters_of (Text cause place) = None
letters_of Operations = Some (codes "A1")
letters_of Messages = Some (codes "A2")
letters_of Budget = Some (codes "P5")
letters_of Periods = Some (codes "P8")
letters_of Memory = Some (codes "memory")
