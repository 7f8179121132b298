-- What the code's places in a text stand for.
use Rattle.std.specs.Prelude.{◌≡◌, List, ℕ, ◌≤◌, length, drop, Option, option_map, option_to_list, IfSome}
use Rattle.words.specs.Words.{words}
use Rattle.words.specs.Places.{part, words_at}
use Rattle.versions.specs.declared.Version.{Version}
use Rattle.statements.specs.Statements.{Said, TurnSaid, read_name, read_register}
use Rattle.statements.specs.declared.head.Declared.{Declared}
use Rattle.statements.specs.declared.gate.Turning.{Turning}
use Rattle.statements.specs.declared.gate.Stated.{Stated}

-- the register's statement
pub record RegisterAt (v : Version) (s : List ℕ) (at : Option ℕ) (found : Option Declared) : Type 0 where
  pub got : option_map (λ r. record { value = r.size; rest = words (drop r.next s) }) found ≡ read_register v (words_at s at)
  pub name : IfSome found (λ r. (r.name.from ≤ r.name.to) × (r.name.to ≤ length s) × (part r.name.from r.name.to s ≡ read_name v (words_at s at)))

-- a rotation's statement
abbrev pub turn_of : List ℕ → Turning → TurnSaid
turn_of s r = record { qubit = r.qubit; angle = r.angle; rest = words (drop r.next s) }

abbrev pub turn_at : List ℕ → Option Turning → Option TurnSaid
turn_at s r = option_map (turn_of s) r

-- a statement behind the register
abbrev pub said_of : List ℕ → Stated → Said
said_of s r = record { records = option_to_list r.record; phase = r.phase; rest = words (drop r.next s) }

abbrev pub said_at : List ℕ → Option Stated → Option Said
said_at s r = option_map (said_of s) r
