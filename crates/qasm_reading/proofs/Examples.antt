-- The examples of requests E1 and E5 hold. Assumes nothing.
use mathlib.Core.Path.{refl}
use Rattle.gates.specs.Layout.{packed}
use Rattle.gates.specs.Example.{AllHold}
use Rattle.circuit.specs.Phase.{phases}
use Rattle.angles.specs.Units.{is_over, signed_of, reduced_of, angle_in}
use Rattle.spots.specs.Numbers.{read_number, number_from, more_digits, digit_of}
use Rattle.words.specs.Bytes.{blank, small, in_name, in_word, goes_on, slashes, same, ended_lines}
use Rattle.words.specs.Words.{after, ended, lex}
use Rattle.words.specs.Taking.{taken, numbered, front_word, named, is_name, all_in_name}
use Rattle.statements.specs.Forms.{half_taken}
use Rattle.statements.specs.Statements.{read_version, read_include, read_size, read_name, read_register, read_many, read_times, read_divided, read_divisor, read_multiple, read_angle, read_qubit, read_cnot, read_tail, read_opening, read_turn, read_common, read_newer, read_rotation, read_single, read_plain, read_gate, has_end, read_follow, ends_in, ends_at, bad_newer, bad_angle}
use Rattle.qasm_reading.specs.Parsing.{statement_run_in, statement_run, head_fault, end_circuit, behind_register, registered, included, versioned, parsed_words, parsed_circuit}
use Rattle.qasm_reading.specs.Readings.{judged_circuit_text}
use Rattle.qasm_reading.specs.Examples.{qasm_examples}

pub qasm-examples : AllHold qasm_examples
unfolding AllHold packed phases is_over signed_of reduced_of angle_in read_number number_from more_digits digit_of blank small in_name in_word goes_on slashes same ended_lines after ended lex taken numbered front_word named is_name all_in_name half_taken read_version read_include read_size read_name read_register read_many read_times read_divided read_divisor read_multiple read_angle read_qubit read_cnot read_tail read_opening read_turn read_common read_newer read_rotation read_single read_plain read_gate has_end read_follow ends_in ends_at bad_newer bad_angle statement_run_in statement_run head_fault end_circuit behind_register registered included versioned parsed_words parsed_circuit judged_circuit_text
qasm-examples = (refl, ((refl, refl, refl, refl, refl, refl, refl), ((λ room. refl), ((λ room. (refl, refl)), (refl, ((λ room. refl), ((refl, refl, refl, refl), (refl, ((λ room. (refl, refl, refl)), tt)))))))))
