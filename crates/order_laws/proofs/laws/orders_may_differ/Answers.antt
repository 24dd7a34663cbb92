use Rattle.order_laws.proofs.OrderExamples.{two_orders, two_moves_ordered, first_alloc, late_alloc, branch_predicate, branch_register, return_state, parallel_compares, memory_order, spills_and_fills, later_writes_differ}
use Rattle.order_laws.proofs.laws.orders_may_differ.Goals as goal

pub returns-clause-orders : goal.returns-clause-orders
returns-clause-orders c = two_orders

pub returns-clause-moves : goal.returns-clause-moves
returns-clause-moves c = two_moves_ordered

pub returns-clause-first_alloc : goal.returns-clause-first_alloc
returns-clause-first_alloc c = first_alloc

pub returns-clause-late_alloc : goal.returns-clause-late_alloc
returns-clause-late_alloc c = late_alloc

pub returns-clause-branch_predicate : goal.returns-clause-branch_predicate
returns-clause-branch_predicate c = branch_predicate

pub returns-clause-branch_register : goal.returns-clause-branch_register
returns-clause-branch_register c = branch_register

pub returns-clause-return_state : goal.returns-clause-return_state
returns-clause-return_state c = return_state

pub returns-clause-parallel_compares : goal.returns-clause-parallel_compares
returns-clause-parallel_compares c = parallel_compares

pub returns-clause-memory_order : goal.returns-clause-memory_order
returns-clause-memory_order c = memory_order

pub returns-clause-spills_and_fills : goal.returns-clause-spills_and_fills
returns-clause-spills_and_fills c = spills_and_fills

pub returns-clause-later_writes : goal.returns-clause-later_writes
returns-clause-later_writes c = later_writes_differ
