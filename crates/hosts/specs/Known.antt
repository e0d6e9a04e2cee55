-- What the hosts know, exactly.
use Rattle.std.specs.Prelude.{ℕ, Bool, true, false, not as negated, ◌&&◌, Some, None, Option, ◌==◌}
use Rattle.script.specs.declared.Word.{Word}
use Rattle.script.specs.declared.Word.TheVariants.{False, True, Null}
use Rattle.script.specs.Tree.{Expr, number, word, name, assignment, call, sequence, conditional, logical, not, void, strict_equality}
use Rattle.script.specs.Tree.{Exprs, no_exprs, expr_then}
use Rattle.hosts.specs.Meaning.{Meaning}

-- nothing at all
abbrev pub silent : Meaning
silent = record { harmless = λ e. false; undefined = λ e. false; truth = λ e. None }

-- only 0 is false among the numbers, only true is true among the words
abbrev pub number_truth : ℕ → Bool
number_truth bits = negated (bits == 0)

abbrev pub word_truth : Word → Bool
word_truth False = false
word_truth True = true
word_truth Null = false

-- Bare knows literals

abbrev pub bare_harmless : Expr → Bool
bare_harmless (number b) = true
bare_harmless (word w) = true
bare_harmless (name n) = false
bare_harmless (assignment n e) = false
bare_harmless (call n es) = false
bare_harmless (sequence e es) = false
bare_harmless (conditional t a b) = false
bare_harmless (logical o a b) = false
bare_harmless (not e) = false
bare_harmless (void e) = false
bare_harmless (strict_equality a b) = false

abbrev pub bare_truth : Expr → Option Bool
bare_truth (number b) = Some (number_truth b)
bare_truth (word w) = Some (word_truth w)
bare_truth (name n) = None
bare_truth (assignment n e) = None
bare_truth (call n es) = None
bare_truth (sequence e es) = None
bare_truth (conditional t a b) = None
bare_truth (logical o a b) = None
bare_truth (not e) = None
bare_truth (void e) = None
bare_truth (strict_equality a b) = None

abbrev pub bare : Meaning
bare = record { harmless = bare_harmless; undefined = λ e. false; truth = bare_truth }

-- Reader knows literals, and what is made of harmless parts without a name or a call

abbrev mutual
  pub reader_harmless : Expr → Bool
  reader_harmless (number b) = true
  reader_harmless (word w) = true
  reader_harmless (name n) = false
  reader_harmless (assignment n e) = false
  reader_harmless (call n es) = false
  reader_harmless (sequence e es) = reader_harmless e && all_harmless es
  reader_harmless (conditional t a b) = reader_harmless t && (reader_harmless a && reader_harmless b)
  reader_harmless (logical o a b) = reader_harmless a && reader_harmless b
  reader_harmless (not e) = reader_harmless e
  reader_harmless (void e) = reader_harmless e
  reader_harmless (strict_equality a b) = reader_harmless a && reader_harmless b

  pub all_harmless : Exprs → Bool
  all_harmless no_exprs = true
  all_harmless (expr_then e es) = reader_harmless e && all_harmless es

-- of an item and the others: the fact of the last of all
abbrev pub last_or : Bool → Exprs → Bool → Bool
last_or item no_exprs others = item
last_or item (expr_then e es) others = others

abbrev mutual
  -- a void, and a sequence whose last item is such
  pub reader_undefined : Expr → Bool
  reader_undefined (number b) = false
  reader_undefined (word w) = false
  reader_undefined (name n) = false
  reader_undefined (assignment n e) = false
  reader_undefined (call n es) = false
  reader_undefined (sequence e es) = last_or (reader_undefined e) es (last_undefined es)
  reader_undefined (conditional t a b) = false
  reader_undefined (logical o a b) = false
  reader_undefined (not e) = false
  reader_undefined (void e) = true
  reader_undefined (strict_equality a b) = false

  pub last_undefined : Exprs → Bool
  last_undefined no_exprs = false
  last_undefined (expr_then e es) = last_or (reader_undefined e) es (last_undefined es)

-- a known truth turned round
abbrev pub turned : Option Bool → Option Bool
turned None = None
turned (Some b) = Some (negated b)

abbrev pub false_if : Bool → Option Bool
false_if true = Some false
false_if false = None

abbrev pub reader_truth : Expr → Option Bool
reader_truth (number b) = Some (number_truth b)
reader_truth (word w) = Some (word_truth w)
reader_truth (name n) = None
reader_truth (assignment n e) = None
reader_truth (call n es) = None
reader_truth (sequence e es) = None
reader_truth (conditional t a b) = None
reader_truth (logical o a b) = None
reader_truth (not e) = turned (reader_truth e)
reader_truth (void e) = false_if (reader_harmless e)
reader_truth (strict_equality a b) = None

abbrev pub reader : Meaning
reader = record { harmless = reader_harmless; undefined = reader_undefined; truth = reader_truth }
