-- Variables of which each is given.
use Rattle.std.proofs.Common.{◌≡◌, ◌≤◌, ℕ, Option, None, Some, length, IsTrue, true, false, refl, arith}
use Rattle.std.specs.Prelude.{IfSome, option_map}
use Rattle.std.specs.Global.{Vec}
use Rattle.rev_scopes.specs.declared.edge.EdgeVariables.{EdgeVariables}
use Rattle.rev_scopes.specs.declared.growth.TheConstants.{MAX_VALUE_BYTES}
use Rattle.rev_scopes.specs.declared.rule_variable.RuleVariable.{RuleVariable}
use Rattle.rev_scopes.specs.declared.rule_variable.RuleVariable.TheVariants.{Command, Depfile, Deps, MsvcDepsPrefix, Description, Generator, Restat, Rspfile, RspfileContent, Pool}
use Rattle.rev_scopes.specs.RuleNames.{name_of, is_needed}
use Rattle.rev_scopes.specs.Scopes.{or_empty}
use Rattle.rev_scopes.specs.Edges.{EdgeEnvValue, HasValue, given_for, response_given}
use Rattle.rev_scopes.specs.Given.{AreGiven, IsGiven}

pub all-given : (edge : EdgeEnvValue) (values : EdgeVariables) → IsGiven edge (name_of Command) values.command.items → IsGiven edge (name_of Depfile) values.depfile.items → IsGiven edge (name_of Deps) values.deps.items
    → IsGiven edge (name_of Generator) values.generator.items → IsGiven edge (name_of Restat) values.restat.items → IsGiven edge (name_of RspfileContent) values.rspfile_content.items → IsGiven edge (name_of Pool) values.pool.items
    → AreGiven edge values
all-given edge values command depfile deps generator restat content pool = record { are = are }
  where
    are : (variable : RuleVariable) → IsTrue (is_needed variable) → IsGiven edge (name_of variable) (given_for variable values)
    are Command needed = command
    are Depfile needed = depfile
    are Deps needed = deps
    are MsvcDepsPrefix needed = let no : false ≡ true = needed in cc
    are Description needed = let no : false ≡ true = needed in cc
    are Generator needed = generator
    are Restat needed = restat
    are Rspfile needed = let no : false ≡ true = needed in cc
    are RspfileContent needed = content
    are Pool needed = pool

pub path-within : (path : Option (Vec ℕ)) → IfSome path (λ (p : Vec ℕ). length p.items ≤ MAX_VALUE_BYTES) → length (or_empty (option_map (λ (p : Vec ℕ). p.items) path)) ≤ MAX_VALUE_BYTES
path-within None fits = omega arith
path-within (Some p) fits = fits

-- with a path of a response file, which no variable that is needed is given by
module _ (edge : EdgeEnvValue) (values : EdgeVariables) (path : Option (Vec ℕ)) (given : AreGiven edge values) where
  abbrev pub with_path : EdgeVariables
  with_path = record values { rspfile = path }

  pub given-values : (variable : RuleVariable) → IsTrue (is_needed variable) → HasValue edge (name_of variable) (given_for variable with_path)
  given-values Command needed = let one = given.are Command needed in one.is
  given-values Depfile needed = let one = given.are Depfile needed in one.is
  given-values Deps needed = let one = given.are Deps needed in one.is
  given-values MsvcDepsPrefix needed = let no : false ≡ true = needed in cc
  given-values Description needed = let no : false ≡ true = needed in cc
  given-values Generator needed = let one = given.are Generator needed in one.is
  given-values Restat needed = let one = given.are Restat needed in one.is
  given-values Rspfile needed = let no : false ≡ true = needed in cc
  given-values RspfileContent needed = let one = given.are RspfileContent needed in one.is
  given-values Pool needed = let one = given.are Pool needed in one.is

  pub given-within : length (or_empty (response_given with_path)) ≤ MAX_VALUE_BYTES → (variable : RuleVariable) → length (given_for variable with_path) ≤ MAX_VALUE_BYTES
  given-within fits Command = let one = given.are Command refl in one.within
  given-within fits Depfile = let one = given.are Depfile refl in one.within
  given-within fits Deps = let one = given.are Deps refl in one.within
  given-within fits MsvcDepsPrefix = omega arith
  given-within fits Description = omega arith
  given-within fits Generator = let one = given.are Generator refl in one.within
  given-within fits Restat = let one = given.are Restat refl in one.within
  given-within fits Rspfile = fits
  given-within fits RspfileContent = let one = given.are RspfileContent refl in one.within
  given-within fits Pool = let one = given.are Pool refl in one.within
