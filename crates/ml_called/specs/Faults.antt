-- What is raised for an argument by the fault that was found.
use Rattle.std.specs.Prelude.{Option, Some, None, codes}
use Rattle.ml_term.specs.Tree.{Tree}
use Rattle.ml_search.specs.Errors.{instantiation_error, type_error, resource_error}
use Rattle.ml_called.specs.declared.fault.ArgumentFault.{ArgumentFault}
use Rattle.ml_called.specs.declared.fault.ArgumentFault.TheVariants.{Unbound, TooLarge}
use Rattle.ml_called.specs.declared.fault.ArgumentFault.TheVariants.{NotCallable, NotAList}

-- the term that is raised for a term with a fault
abbrev pub raised : Tree → ArgumentFault → Tree
raised t Unbound = instantiation_error
raised t TooLarge = resource_error (codes "term")
raised t NotCallable = type_error (codes "callable") t
raised t NotAList = type_error (codes "list") t

-- what is raised for a term, if a fault was found
abbrev pub raised_for : Tree → Option ArgumentFault → Option Tree
raised_for t None = None
raised_for t (Some f) = Some (raised t f)
