-- The examples of document 01 that speak of meaning, sums, depth and B hold, by computing them. Assumes nothing.
use mathlib.Core.Path.{refl}
use Rattle.sets.specs.Columns.{units, cnot}
use Rattle.gates.specs.Layout.{packed, kind_in, a_in, b_in, cnot_of, rotation_of, x_of, gate_of}
use Rattle.circuit.specs.Circuit.{step, run, start, final_of, takes, gives_on, given_on, sum_of}
use Rattle.circuit.specs.Flips.{no_flips, flip_step, flip_run, flip_of}
use Rattle.circuit.specs.Phase.{shifts, shifts_on, shifted, phase_of}
use Rattle.meaning.specs.Borne.{is_term, insert, bears, borne_from, borne, terms}
use Rattle.sets.specs.Lists.{those}
use Rattle.tallies.specs.Tally.{raised, layered, layers_from, highest, depth_of, bound_of}
use Rattle.gates.specs.Example.{AllHold}
use Rattle.meaning.specs.Examples.{meaning_examples}

pub meaning-examples : AllHold meaning_examples
unfolding AllHold meaning_examples packed kind_in a_in b_in cnot_of rotation_of x_of gate_of units cnot step run start final_of no_flips flip_step takes gives_on given_on sum_of flip_run flip_of shifts shifts_on shifted phase_of insert bears borne_from borne those is_term terms raised layered layers_from highest depth_of bound_of
meaning-examples = ((refl, refl), ((refl, refl, refl), (refl, ((refl, refl), (refl, ((refl, refl, refl, refl, refl), (refl, ((refl, refl, refl, refl), ((refl, refl, refl), ((refl, refl, refl, refl), tt))))))))))
