mod Refusals
mod Witnesses
mod Wrong
