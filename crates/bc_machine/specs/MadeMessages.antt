-- The messages that a controller made, as its host looks back at them.
use Rattle.mil_message.specs.declared.forms.Form.{Form}
use Rattle.bc_machine.specs.declared.made.Kind.{Kind}
use Rattle.bc_machine.specs.declared.made.Kind.TheVariants.{Own, Inserted}

pub data MadeMessage : Type 0 where
  -- one of the script, as it stands there
  own : Form → MadeMessage
  -- one that the host of the controller had inserted
  inserted : MadeMessage

abbrev pub made_in : Kind → MadeMessage
made_in (Own message) = own message.value
made_in Inserted = inserted
