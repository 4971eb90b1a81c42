-- What a writer's fault prints (own choice).
use Rattle.std.specs.Prelude.{ℕ, List, ◌++◌, codes, decimal}
use Rattle.ch11_writer.specs.declared.writer.WriteFault.{WriteFault}

abbrev pub fault_text : WriteFault → List ℕ
fault_text e = codes "V1 taken " ++ decimal e.taken
