-- The twelve rows of known words, and edition 2, computed from the definitions together.
use mathlib.Core.Path.{refl}
use Rattle.instructions.specs.Decoding.{decode_of}
use Rattle.execute.specs.Edition.{refused_edition, edition_of}
use Rattle.execute.specs.Execute.{execute_of}
use Rattle.memory.specs.Memory.{refused_length, read_mark, write_mark, place_of, read_of, write_of}
use Rattle.memory.specs.Rights.{has_right}
use Rattle.emulator.specs.Machine.{plan_of, cycle_of, refusal_of, step_of, run_until, run_in}
use Rattle.run_laws.specs.Rows.{Rows}

pub rows : Rows
unfolding decode_of refused_edition edition_of execute_of refused_length read_mark write_mark has_right place_of read_of write_of plan_of cycle_of refusal_of step_of run_until run_in
rows = refl
