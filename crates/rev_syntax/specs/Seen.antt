-- What the types of statements hold.
use Rattle.std.specs.Prelude.{◌≡◌, List, [], ◌∷◌, map, Option, Some, None, Result, Ok, Err}
use Rattle.std.specs.Borrow.{Bor}
use Rattle.rev_syntax.specs.declared.statement.Binding.{Binding}
use Rattle.rev_syntax.specs.declared.statement.BuildLine.{BuildLine}
use Rattle.rev_syntax.specs.declared.statement.Form.{Form}
use Rattle.rev_syntax.specs.declared.statement.Form.TheVariants.{Rule, Build, Pool, Default, Include, Subninja, Variable}
use Rattle.rev_syntax.specs.declared.statement.Statement.{Statement}
use Rattle.rev_syntax.specs.declared.forms.Header.{Header}
use Rattle.rev_syntax.specs.declared.forms.Header.TheVariants as code
use Rattle.rev_syntax.specs.declared.outputs.Outputs.{Outputs}
use Rattle.rev_syntax.specs.declared.forms.Inputs.{Inputs}
use Rattle.rev_syntax.specs.declared.fault.SyntaxFault.{SyntaxFault}
use Rattle.rev_syntax.specs.declared.fault.ReadFault.{ReadFault}
use Rattle.rev_syntax.specs.declared.fault.ReadFault.TheVariants.{Memory, Refused}
use Rattle.rev_syntax.specs.Lines.{LineValue}
use Rattle.rev_syntax.specs.Statements.{BindingValue, BuildLineValue, FormValue, RuleForm, BuildForm, PoolForm, DefaultForm, IncludeForm, SubninjaForm, VariableForm, StatementValue, OutputsValue, InputsValue, HeaderValue, RuleHeader, BuildHeader, PoolHeader, DefaultHeader, IncludeHeader, SubninjaHeader, VariableHeader, statements_of}

abbrev pub seen_binding : Binding → BindingValue
seen_binding binding = record { name = binding.name.now; value = binding.value; line = binding.line }

abbrev pub seen_outputs : Outputs → OutputsValue
seen_outputs outputs = record { outs = outputs.outs.items; implicit_outs = outputs.implicit_outs.items; rest = outputs.rest.now }

abbrev pub seen_inputs : Inputs → InputsValue
seen_inputs inputs =
    record { ins = inputs.ins.items; implicit = inputs.implicit.items; order_only = inputs.order_only.items; validations = inputs.validations.items }

abbrev pub seen_build_line : BuildLine → BuildLineValue
seen_build_line build =
    record {
      outs = build.outs.items;
      implicit_outs = build.implicit_outs.items;
      rule = build.rule.now;
      ins = build.ins.items;
      implicit = build.implicit.items;
      order_only = build.order_only.items;
      validations = build.validations.items;
    }

abbrev pub seen_header : Header → HeaderValue
seen_header (code.Rule name) = RuleHeader name.now
seen_header (code.Build build) = BuildHeader (seen_build_line build)
seen_header (code.Pool name) = PoolHeader name.now
seen_header (code.Default paths) = DefaultHeader paths.items
seen_header (code.Include path) = IncludeHeader path
seen_header (code.Subninja path) = SubninjaHeader path
seen_header (code.Variable binding) = VariableHeader (seen_binding binding)

abbrev pub seen_form : Form → FormValue
seen_form (Rule name bindings) = RuleForm name.now (map seen_binding bindings.items)
seen_form (Build build bindings) = BuildForm (seen_build_line build) (map seen_binding bindings.items)
seen_form (Pool name bindings) = PoolForm name.now (map seen_binding bindings.items)
seen_form (Default paths) = DefaultForm paths.items
seen_form (Include path) = IncludeForm path
seen_form (Subninja path) = SubninjaForm path
seen_form (Variable binding) = VariableForm (seen_binding binding)

-- what a statement holds
abbrev pub seen_statement : Statement → StatementValue
seen_statement statement = record { line = statement.line; form = seen_form statement.form }

-- a first statement and the lines after it are those of the statements meant; there is none where none is meant
abbrev pub IsFirst : Option (Statement × Bor (List LineValue)) → List (Result StatementValue SyntaxFault) → Type 0
IsFirst None meant = meant ≡ []
IsFirst (Some found) meant = meant ≡ Ok (seen_statement found.0) ∷ statements_of found.1.now

-- a fault is that of the first of the statements meant; Memory says nothing of them
abbrev pub IsFirstFault : ReadFault → List (Result StatementValue SyntaxFault) → Type 0
IsFirstFault Memory meant = Unit {0}
IsFirstFault (Refused fault) meant = (others : List (Result StatementValue SyntaxFault)) × (meant ≡ Err fault ∷ others)
