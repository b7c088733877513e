mod Arms
mod Lawfully
mod Looks
mod Pictured
mod Reaches
mod Sends
mod Spends
mod Traced
